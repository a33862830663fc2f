pub mod Meaning
pub mod Shapes
pub mod Plans
pub mod Columns
pub mod Walks

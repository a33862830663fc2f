pub mod Agreement
pub mod Spots
pub mod Columns
pub mod EqualShapes
pub mod OwnWords

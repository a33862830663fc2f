pub mod TapeRows
pub mod RunPairs
pub mod Forms
pub mod TapeLaws
pub mod ViewLaws
pub mod QueryLaws
pub mod FileLaws

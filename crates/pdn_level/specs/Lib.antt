pub mod Models
pub mod Links
pub mod Slices
pub mod Levels
pub mod Cutting
pub mod Padding

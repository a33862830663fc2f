pub mod Strictly
pub mod SameValues
pub mod Shapes
pub mod SpotLaws

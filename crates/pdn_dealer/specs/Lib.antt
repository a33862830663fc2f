pub mod Tapes
pub mod Sections

pub mod SectionWords
pub mod WorldLaws
pub mod TwinLaws
pub mod Crossing

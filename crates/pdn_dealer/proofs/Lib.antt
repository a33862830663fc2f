pub mod TapeWords
pub mod SectionWords

pub mod PlainWords
pub mod TapeChange
pub mod TwoWorlds
pub mod WholeFile

pub mod Twins
pub mod UnitTwins
pub mod TwinRuns

pub mod Changes
pub mod Worlds
pub mod SmallShift

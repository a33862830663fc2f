pub mod Undoing
pub mod TwoWorlds
pub mod Changing

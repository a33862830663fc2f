pub mod Rules
pub mod Scripts
pub mod Ways
pub mod Stops

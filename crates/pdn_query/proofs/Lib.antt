pub mod Walks
pub mod Worlds
pub mod Steps
pub mod Gathers
mod Judges
pub mod Readiness
pub mod DeskCalls
mod Shown
mod Tapes

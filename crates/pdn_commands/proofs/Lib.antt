pub mod Tasks
pub mod Runs
mod Files
pub mod Refusing
pub mod Saying
pub mod Causes
pub mod TwinReasons
pub mod Generating
mod Outcomes
mod AgreedWorlds
mod Tapes

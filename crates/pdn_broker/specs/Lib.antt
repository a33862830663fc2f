pub mod Runs
pub mod Answering
pub mod Units
pub mod Prepared
pub mod Running
pub mod Views
pub mod Answered

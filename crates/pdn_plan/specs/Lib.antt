pub mod Splitting
pub mod Names
pub mod Steps
pub mod Planning
pub mod Binding
pub mod Answer
pub mod Worked
pub mod Keeping

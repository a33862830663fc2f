pub mod Replies
pub mod Bodies
pub mod Values

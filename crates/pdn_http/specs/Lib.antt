pub mod Heads
pub mod Routes
pub mod Requests
pub mod Fronts
pub mod Receiving
pub mod Refusals

pub mod Draws
pub mod DrawRows
pub mod Seats
pub mod Results
pub mod Work

pub mod Loops
pub mod Operators
pub mod Means
pub mod There

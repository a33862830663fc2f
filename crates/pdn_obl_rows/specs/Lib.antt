pub mod Lists
pub mod Encoding
pub mod Conditions
pub mod Operators
pub mod Means

pub mod Part
pub mod Grammar
pub mod Tokens
pub mod Marks
pub mod Reading
pub mod Printing
pub mod Same
pub mod Limits

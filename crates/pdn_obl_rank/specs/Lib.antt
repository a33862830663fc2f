pub mod Keys
pub mod Numbers
pub mod Tops
pub mod Means
pub mod Building
pub mod Worked

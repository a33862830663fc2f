pub mod Import
pub mod Batches

pub mod Views
pub mod Units
pub mod Lines
pub mod Guesses
pub mod Cuts
pub mod Parts
pub mod Machine
pub mod Faults

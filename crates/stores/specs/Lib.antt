pub mod Cells
pub mod Faults
pub mod Stores
pub mod Flats

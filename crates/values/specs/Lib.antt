pub mod Readings
pub mod Names
pub mod Ops
pub mod Laws
pub mod Plains

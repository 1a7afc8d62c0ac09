pub mod Fractions
pub mod DigitLoops
pub mod Dimensions
pub mod Promises

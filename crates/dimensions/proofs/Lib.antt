pub mod Rounding
pub mod Remainders
pub mod DigitSteps
pub mod Signs

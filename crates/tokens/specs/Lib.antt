pub mod Limits
pub mod Groups
pub mod Refusals
pub mod Codes
pub mod Words
pub mod Classes
pub mod Copies

pub mod Calls
pub mod Histories
pub mod Law
pub mod Made
pub mod Order
pub mod Writes

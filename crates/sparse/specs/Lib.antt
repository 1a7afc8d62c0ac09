pub mod Listing
pub mod Trees
pub mod Parts
pub mod Chain
pub mod Held
pub mod Sparses

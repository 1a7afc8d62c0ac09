pub mod LineEnds
pub mod Events

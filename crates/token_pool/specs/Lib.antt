pub mod Pools
pub mod Readings
pub mod Nodes
pub mod Meanings
pub mod Props

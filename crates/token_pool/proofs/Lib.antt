pub mod Chains
pub mod Lists
pub mod Models
pub mod Reading
pub mod Cursors

pub mod Nestings
pub mod Faults
pub mod Tables
pub mod Acts
pub mod Traces
pub mod Listings
pub mod Scopes
pub mod HeldTokens

pub mod Fronts
pub mod HeldBack

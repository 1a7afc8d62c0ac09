pub mod Rooms
pub mod Pieces
pub mod Signs

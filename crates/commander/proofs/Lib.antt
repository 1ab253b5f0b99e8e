pub mod Refused
pub mod Moves
pub mod Frames

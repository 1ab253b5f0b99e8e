pub mod Commander
pub mod Opened
pub mod Next
pub mod Fate
pub mod Moves
pub mod Frames

pub mod Devices
pub mod Streams
pub mod Pieces
pub mod Words
pub mod Hex
pub mod Lines
pub mod Player

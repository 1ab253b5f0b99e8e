pub mod Fields
pub mod Frames
pub mod Packets
pub mod Held
pub mod Octets
pub mod Listed

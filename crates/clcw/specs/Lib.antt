pub mod Faults
pub mod Flags
pub mod Layout
pub mod Decoding
pub mod Encoding

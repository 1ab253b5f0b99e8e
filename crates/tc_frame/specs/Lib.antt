pub mod Faults
pub mod Laws
pub mod Layout
pub mod Decoding
pub mod Encoding
pub mod Splitter

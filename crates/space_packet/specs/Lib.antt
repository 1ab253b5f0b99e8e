pub mod Counters
pub mod Faults
pub mod Splitter
pub mod Layout
pub mod Packets
pub mod Decoding
pub mod Encoding
pub mod Laws

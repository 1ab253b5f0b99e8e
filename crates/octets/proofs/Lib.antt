pub mod Streams
pub mod Checked
pub mod Bits
pub mod Division
pub mod TableEntries
pub mod Bursts
pub mod Walks

pub mod Words
pub mod FrameLines
pub mod PacketLines
pub mod HeldLines
pub mod Runs

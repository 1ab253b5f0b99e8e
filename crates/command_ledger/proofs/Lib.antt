pub mod Passing
pub mod Commands
pub mod Reading
pub mod Fates
pub mod Kept
pub mod Numbers

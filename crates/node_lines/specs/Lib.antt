pub mod Lines
pub mod Spelling
pub mod Causes
pub mod Answers
pub mod Nodes
pub mod Ground
pub mod Spacecraft
pub mod Player

pub mod Answers
pub mod Player
pub mod LinkNode
pub mod Scripts
pub mod Ending
pub mod Run

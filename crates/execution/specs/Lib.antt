pub mod System
pub mod Execution
pub mod Own

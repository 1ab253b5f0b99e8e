pub mod Handled
pub mod Answered
pub mod Commanded

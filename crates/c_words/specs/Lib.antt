pub mod Directives
pub mod Words

pub mod Number
pub mod Outcome
pub mod Records
pub mod Splitter
pub mod SplitterLent
pub mod Check
pub mod Beginning

pub mod Groups
pub mod LongestGroups
pub mod Handed
pub mod AssemblerSteps
pub mod Parts
pub mod Passage
pub mod Whole
pub mod PartLists

pub mod Acceptance
pub mod Events
pub mod MapLists
pub mod Replies
pub mod Faults
pub mod World
pub mod WorldFields

pub mod Found
pub mod Outcome
pub mod Listed
pub mod Status

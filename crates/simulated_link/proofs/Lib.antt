pub mod Gained
pub mod Common
pub mod Counted
pub mod Lists
pub mod Unchanged
pub mod Transit

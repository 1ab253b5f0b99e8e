pub mod Listed
pub mod ListedMaps
pub mod Digits
pub mod CountedPhrases
pub mod Words
pub mod WordEnds

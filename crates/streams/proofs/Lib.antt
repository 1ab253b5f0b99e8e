pub mod Beginnings
pub mod Cuts
pub mod SpelledWords
mod PlayedPieces

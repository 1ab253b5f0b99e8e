mod FoundPieces
mod FoundSteps

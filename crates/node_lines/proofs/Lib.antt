mod SpelledLines
mod Answered

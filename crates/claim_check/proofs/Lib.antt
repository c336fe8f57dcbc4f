mod Answered
mod AskedAnswers
mod Served
mod SharedNames
mod Surveyed
mod WordFacts

pub mod Adding
pub mod FairMarks
pub mod LexedAgain
pub mod OwnTokens
pub mod ReadAgain
pub mod SpelledLaws

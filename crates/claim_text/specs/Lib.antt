-- The text of claims.
pub mod Appends
pub mod Lists
pub mod Numbers
pub mod PatternText
pub mod Groups
pub mod DeedText
pub mod OrderText
pub mod CountText
pub mod TestText
pub mod Subject
pub mod EntryView
pub mod ClaimText
pub mod ClaimLines
pub mod BreakText

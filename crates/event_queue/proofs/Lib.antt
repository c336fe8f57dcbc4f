pub mod Only
pub mod Posting

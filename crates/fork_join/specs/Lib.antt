pub mod Kept
pub mod Gravest
pub mod Tokens

pub mod Errors
pub mod Groups
pub mod Laws
pub mod Links
pub mod Makes
pub mod Medium

-- Scenarios: the meaning of a text.
pub mod Checks
pub mod Document
pub mod Errors
pub mod FaultNumbers
pub mod Laws
pub mod Limits
pub mod Names
pub mod Net
pub mod Programs
pub mod Reading
pub mod Reads
pub mod Rules

pub mod Drains
pub mod Gathered
pub mod Handles
pub mod Items
pub mod Kept
pub mod Rule
pub mod Views

pub mod Counts
pub mod Drains
pub mod Kept
pub mod Moves
pub mod Parts
pub mod Takers

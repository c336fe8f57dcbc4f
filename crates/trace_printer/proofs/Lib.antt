pub mod Crossing
pub mod Digits
pub mod Pieces
pub mod Puts
pub mod Rounds
pub mod ShortNumbers
pub mod TraceLines
pub mod Written

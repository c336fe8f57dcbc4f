pub mod Due
pub mod Laws
pub mod Ring
pub mod Stamps

pub mod Laws
pub mod MoteErrors
pub mod Public
pub mod Turn

pub mod Lists
pub mod Members
pub mod OfferLaws
pub mod Packed
pub mod Sets

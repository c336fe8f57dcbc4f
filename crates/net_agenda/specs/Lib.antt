pub mod Buckets
pub mod Changes
pub mod Items
pub mod Lists
pub mod NetSystem
pub mod Traces

pub mod Least
pub mod ListedTimers
pub mod NumberLists
pub mod TimerLaws
pub mod Walks

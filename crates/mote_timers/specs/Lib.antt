pub mod DueTimers
pub mod Numbers
pub mod Processes
pub mod Timer
pub mod TimerCalls
pub mod TimerLists

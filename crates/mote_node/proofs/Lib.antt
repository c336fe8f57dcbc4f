pub mod HearLemmas
pub mod StepLemmas
pub mod TurnLaws
pub mod TurnLemmas
pub mod WakeLaws

pub mod Candidates
pub mod Chosen
pub mod Judged
pub mod NetSurvey
pub mod SurveyText

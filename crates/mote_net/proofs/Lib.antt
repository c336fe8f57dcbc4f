pub mod NetMotes
pub mod NetCrossing
pub mod ProgramCrossing

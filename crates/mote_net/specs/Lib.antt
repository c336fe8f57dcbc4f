-- Nets: the subject of a simulation.
pub mod Limits
pub mod Meaning
pub mod Motes
pub mod Net
pub mod Programs
pub mod Report

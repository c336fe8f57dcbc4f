pub mod Command
pub mod Cuts
pub mod FaultLines
pub mod Input
pub mod Laws
pub mod Reads
pub mod Simulation
pub mod Words

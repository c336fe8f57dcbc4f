pub mod CountLaws
pub mod Emitting
pub mod NameLaws
pub mod Spawning
pub mod TreeLaws

-- What private functions promise each other: steps of the proof, which no public contract cites.
pub mod Runs
pub mod Windows

-- What private functions promise each other: steps of the proof, which no public contract cites.
pub mod Windows
pub mod Moves
pub mod Taps

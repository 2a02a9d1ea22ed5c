-- Edges from the index of their first tap.
pub mod EdgeFrom
pub mod NormalKernels
pub mod Taps
-- what private functions promise each other: steps of the proof, which no public contract cites
pub mod Private

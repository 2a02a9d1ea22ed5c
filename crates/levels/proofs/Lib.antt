-- What several proofs share, and the laws of the definitions.
pub mod Encodings
pub mod Levels
pub mod Coefficients

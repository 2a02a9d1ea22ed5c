-- What the contracts of crate `levels` say, from RFC 6386 sections 9.3, 9.4 and 20.6 and document 01. Lines are those of the RFC's text file.
pub mod Encodings
pub mod Levels
pub mod Answers
pub mod Coefficients
pub mod Figures

-- What the contracts of crate `kernels` say, from RFC 6386 sections 15.2 and 15.3. Lines are those of the RFC's text file.
pub mod Answers
pub mod Kernels
pub mod Segment
-- what private functions promise each other: steps of the proof, which no public contract cites
pub mod Private

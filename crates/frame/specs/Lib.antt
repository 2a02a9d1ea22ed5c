-- The contracts of the passes cite the definitions of crate `calls`; this crate has none of its own.
-- What private functions promise each other: steps of the proof, which no public contract cites.
pub mod Private

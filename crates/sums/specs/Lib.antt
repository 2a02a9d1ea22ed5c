-- The error sum of a reconstruction against its source, and the refusals of sums and searches (document 01, Search).
pub mod Source
pub mod SourceRecord
pub mod Sums
pub mod Answers
pub mod GridToSearch
-- planes of bytes, as every lent plane is one
pub mod Bytes
-- what private functions promise each other: steps of the proof, which no public contract cites
pub mod Private

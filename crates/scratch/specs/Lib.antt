-- Scratch planes that a call borrows.
pub mod Copies
-- what private functions of the crates above promise each other: steps of the proof, which no public contract cites
pub mod Private

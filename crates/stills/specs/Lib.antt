-- The full search for stills: of unfiltered and every level with every sharpness, the candidate with the smallest error sum (change request 1).
pub mod FullSearch
pub mod Promise
pub mod Answers
-- what private functions promise each other: steps of the proof, which no public contract cites
pub mod Private

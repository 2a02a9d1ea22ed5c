-- The search for a level and a sharpness: of the pairs that it tries, the one with the smallest error sum (document 01, Search).
pub mod Candidates
pub mod Search
pub mod Answers
-- what private functions promise each other: steps of the proof, which no public contract cites
pub mod Private

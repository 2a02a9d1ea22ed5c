-- The planes of a frame and the loop filter on them, from RFC 6386 sections 15 and 15.1. Lines are those of the RFC's text file.
pub mod Steps
pub mod Planes
pub mod Edges
pub mod Macroblock
pub mod Smoothed
pub mod Reach
pub mod GridRefusals
-- the grid that a caller's planes record names
pub mod Layout
-- a picture that is lent
pub mod Pictures
-- macroblocks, computed
pub mod Examples
-- what private functions promise each other: steps of the proof, which no public contract cites
pub mod Private

-- What private functions promise each other: steps of the proof, which no public contract cites.
pub mod Halves
pub mod PlaneEdges
pub mod Ranges
-- where 5 does not refuse, each macroblock has its entry
pub mod EntryPlaces

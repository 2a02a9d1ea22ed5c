-- The step of a macroblock.
pub mod Bases
pub mod EdgesWithin
pub mod PlaneEdges
pub mod PlaneSteps
pub mod Squares
-- The passes.
pub mod Soundness
pub mod Passes

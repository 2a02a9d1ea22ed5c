-- What several proofs share.
pub mod TapNumbers
pub mod TapPositions
pub mod NormalKinds
pub mod TapsFirst
pub mod RowStores
pub mod ArrayRows
pub mod RunTurns
pub mod RowRuns
pub mod RowCounts
pub mod VerticalRows
pub mod MadeRows
pub mod EdgeRoom

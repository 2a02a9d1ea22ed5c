-- The laws of the definitions of this crate.
pub mod CallFacts
pub mod EntryLaws
pub mod RecordBytes
-- Demand 3.
pub mod CallRuns
pub mod Demand3
-- How many positions are smoothed.
pub mod Parts
pub mod RowsLaws
pub mod SentRows
-- lists of calls, computed
pub mod CallExamples
pub mod CallsShown

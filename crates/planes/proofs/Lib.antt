-- The laws of the definitions of this crate.
pub mod AllOf
pub mod Steps
pub mod Tally
pub mod Fits
pub mod Local
pub mod Divided
pub mod Alike
pub mod ReadFirst
pub mod StepParts
pub mod WorkedParts
pub mod SmoothedLaws
pub mod Final
pub mod RowsFirst
pub mod Commute
pub mod GridLaws
pub mod PastGrid
-- A picture that is lent on.
pub mod Loans

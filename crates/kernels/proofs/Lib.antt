-- What several proofs share.
pub mod SignedBytes
pub mod Apart
pub mod Cuts
pub mod Plain
pub mod Stores
pub mod MovedTaps
pub mod Sums
pub mod Windows
pub mod Filtered
pub mod Decided
pub mod KernelLaws
pub mod SegmentLaws
pub mod LentWindows

-- The laws of the definitions of this crate.
pub mod CopiedSums
pub mod CandidateLaws
pub mod Scores
pub mod TrialLaws
pub mod PassBytes
pub mod Judgements
pub mod Endings
pub mod FoldLaws
pub mod CountLaws
pub mod EqualSums

-- What a call of a pass is to do, decided from numbers (document 01, Halting; who can cause which refusal).
pub mod Batches

-- What the proofs of the C functions share.
pub mod Numbers16
pub mod Returns

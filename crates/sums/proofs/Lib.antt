-- The laws of the definitions of this crate.
pub mod SumLaws
pub mod SumRefusals
pub mod SumBounds

-- The laws of the definitions of this crate.
pub mod Pairs
pub mod Chosen

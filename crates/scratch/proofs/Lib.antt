-- The laws of the definitions of this crate.
pub mod CopyLaws
pub mod AlikeLaws
pub mod SameGrid
pub mod Passes

-- What the contracts of crate `limit_table` say (change request 2).
pub mod InteriorLimits

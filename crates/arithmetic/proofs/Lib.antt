-- What several proofs share.
pub mod Ranges
-- Numbers, computed.
pub mod Shifts
-- Lists whose entries follow a rule, and arrays that a loop fills.
pub mod Tables
-- The limits as the methods of std compute them.
pub mod Limited

-- What the contracts of crate `arithmetic` say, from RFC 6386 sections 15.2 and 15.4. Lines are those of the RFC's text file.
pub mod Outcome
pub mod Numbers
pub mod Limits
-- Lists whose entries follow a rule, for the crates above.
pub mod Tables

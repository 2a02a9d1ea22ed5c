-- What the contracts of the C functions add to the definitions of the crates below: settings as numbers, and out-parameters.
pub mod Settings
pub mod Returned

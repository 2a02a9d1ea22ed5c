-- What a call that changes nothing is lent.
pub mod Stripes

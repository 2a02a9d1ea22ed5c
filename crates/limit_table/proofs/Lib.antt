-- The table, entry by entry.
pub mod Entries

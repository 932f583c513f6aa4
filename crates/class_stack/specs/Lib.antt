pub mod Renaming
pub mod Stack
pub mod Entries

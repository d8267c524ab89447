pub mod Tables
pub mod Entries

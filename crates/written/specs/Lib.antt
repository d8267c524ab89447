pub mod Kept
pub mod Edits

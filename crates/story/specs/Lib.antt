pub mod Steps
pub mod Doings
pub mod Runs
pub mod History
pub mod Stories
pub mod Orders
pub mod Witness

pub mod Commands
pub mod Deciding

pub mod State
pub mod Changes
pub mod Desk
pub mod Decisions
pub mod Names

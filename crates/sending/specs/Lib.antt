pub mod Answers
pub mod Sends

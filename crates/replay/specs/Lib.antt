pub mod Replay
pub mod Next

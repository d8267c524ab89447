pub mod Choose
pub mod Fields
pub mod Whole
pub mod Single
pub mod Play
pub mod Pins

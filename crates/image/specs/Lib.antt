pub mod Cases
pub mod Image
pub mod Quick

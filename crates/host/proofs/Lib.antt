pub mod SendsLaws
pub mod FramesLaws

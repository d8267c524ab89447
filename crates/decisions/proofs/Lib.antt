pub mod AnswersLaws
pub mod RefusalTheorems
pub mod SoundTheorems

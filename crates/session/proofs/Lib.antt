pub mod StateLaws
pub mod RefusalTheorems
pub mod FitsLaws
pub mod SoundTheorems

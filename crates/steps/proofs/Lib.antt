pub mod CommandsLaws
pub mod DecidingLaws
pub mod RefusalTheorems
pub mod SoundTheorems

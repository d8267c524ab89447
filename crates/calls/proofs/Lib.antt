pub mod StartsLaws
pub mod DeterminedTheorems
pub mod RefusalTheorems
pub mod SoundTheorems

pub mod TablesLaws
pub mod SoundLaws
pub mod KeptTheorems

pub mod TurnsLaws
pub mod StartsLaws

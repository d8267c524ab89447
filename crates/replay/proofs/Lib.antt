pub mod NextLaws

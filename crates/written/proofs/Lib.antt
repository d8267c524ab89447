pub mod EditsLaws
pub mod BackLaws
pub mod ColumnLaws
pub mod AppliedTheorems
pub mod RoundTheorems
pub mod TidyTheorems
pub mod ImageTheorems

pub mod ReadingLaws
pub mod WritingLaws
pub mod BackTheorems
pub mod EmptyTheorems

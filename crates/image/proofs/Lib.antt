pub mod RowsLaws
pub mod QuickLaws

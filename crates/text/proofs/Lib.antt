pub mod WordsLaws
pub mod NamesLaws

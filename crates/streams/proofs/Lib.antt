pub mod StreamsLaws

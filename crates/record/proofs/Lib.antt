pub mod RecordLaws
pub mod StatusLaws
pub mod ConnectLaws

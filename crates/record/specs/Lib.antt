pub mod Texts
pub mod Records
pub mod Bodies
pub mod Clock

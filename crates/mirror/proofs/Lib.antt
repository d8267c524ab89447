pub mod HeldLaws
pub mod HostTheorems

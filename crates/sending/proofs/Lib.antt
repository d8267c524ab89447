pub mod SendsLaws
pub mod RefusalTheorems

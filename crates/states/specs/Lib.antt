pub mod Order
pub mod State

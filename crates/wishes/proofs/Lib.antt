pub mod WishLaws
pub mod ValuesLaws
pub mod CommandLaws
pub mod DataFrameLaws
pub mod SlashTheorems
pub mod NameTheorems
pub mod NumberTheorems

pub mod Grant
pub mod Says
pub mod Items

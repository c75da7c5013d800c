pub mod Words
pub mod Items

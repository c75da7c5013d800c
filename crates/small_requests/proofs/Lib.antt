mod Lists
pub mod Rows
mod Choosing
mod Directions

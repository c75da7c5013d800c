pub mod Lists
pub mod Shapes
pub mod Small
pub mod Legal
pub mod Computed

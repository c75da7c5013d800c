mod Legal
mod Growing
pub mod Moving

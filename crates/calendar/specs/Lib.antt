pub mod Calendar
pub mod Promise
pub mod Inside

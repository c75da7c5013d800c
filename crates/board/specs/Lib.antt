pub mod Board
pub mod Promise

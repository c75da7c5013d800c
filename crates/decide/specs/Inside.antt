pub mod ListReading

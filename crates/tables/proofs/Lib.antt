pub mod Views
pub mod Keeps
pub mod Stored
pub mod Rows
pub mod Sizes
pub mod Opens
pub mod Levels

pub mod Tails
pub mod Descents
pub mod Walks
pub mod Pages
pub mod Texts
pub mod Draws

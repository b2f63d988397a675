pub mod Sound
pub mod Reaches
pub mod Finds
pub mod Adopts

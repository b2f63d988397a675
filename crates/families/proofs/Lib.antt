mod Alternatives
mod Cycles
pub mod Facts
mod Found
mod Made
mod Sweeping

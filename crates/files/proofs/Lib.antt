mod Digits
mod Defaults
mod Each
pub mod Places
pub mod Runs
pub mod Facts
mod Computed
mod Spelling
mod Numbering
mod Growth
mod Drafts
mod Grown
mod Moves
mod Shows
mod Stepping
mod Paths
mod Means
mod Following
mod Exact

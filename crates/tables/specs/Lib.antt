pub mod Counts
pub mod Costs
pub mod Tables
pub mod Fillings
pub mod Openings
pub mod Meanings
pub mod KindLaws
pub mod Capped

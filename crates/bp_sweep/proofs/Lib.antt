pub mod DenseNumbers
pub mod Gathering
pub mod Lines
pub mod Columns
pub mod Tally
pub mod Steps
pub mod Fixing
pub mod Sweeping

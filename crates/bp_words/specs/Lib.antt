-- What seats of a frame know, and the rule of a frame.
pub mod Fields
pub mod Shares
pub mod Views
pub mod Rule
pub mod Waiters
pub mod Latch

-- The parts of a pool, and what a call does in one of them.
pub mod Parts
pub mod Redo
pub mod Finding
pub mod Sums
pub mod Flushes
pub mod Logs
-- How all parts are made, and end.
pub mod Places
pub mod Making
pub mod Ending

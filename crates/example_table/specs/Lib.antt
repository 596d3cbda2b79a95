-- What a pool had its device do.
pub mod PoolLives
-- The first change of a page since the log was begun.
pub mod Images
-- A table, as its calls leave it.
pub mod Passes
pub mod Marks
pub mod Tables
pub mod TableCalls
pub mod Faults
-- Which of two files has the log, and what an opening and a checkpoint do.
pub mod Opening
pub mod Checkpoints

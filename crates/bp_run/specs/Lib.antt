-- Which pages a run is over, what is printed of it and of a sweep, and why there is no report or no
-- table.
pub mod PageFile
pub mod Ways
pub mod Opening
pub mod AnyPort
pub mod Scripts
pub mod Drawing
pub mod Sweep
pub mod Run
pub mod Stops

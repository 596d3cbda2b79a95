-- What a driver adds to its core, for one fix or flush and for the flush of each unsaved page; and
-- what a pool with one owner does.
pub mod Drivers
pub mod FlushAll
pub mod Owned

-- What recovery promises: what a device of pages may have, and what redo makes of it.
pub mod Disk
pub mod Promise
-- What each step of redo does.
pub mod Steps
-- The records of a log as bytes.
pub mod Frames
-- A file of bytes, and what a crash leaves of it.
pub mod Files
-- A log in a file.
pub mod Lives
pub mod LogFiles
-- The calls of a device and of two files in one list.
pub mod Moments
-- Commits as records of a log.
pub mod Commits
pub mod Heads

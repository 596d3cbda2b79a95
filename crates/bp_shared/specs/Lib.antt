-- What a session's call adds to its list, and what the locked state does with it.
pub mod Sessions
pub mod Locked
pub mod Calls
pub mod Closing
pub mod Taking
pub mod Telling
pub mod Keeping
pub mod Writing
pub mod Posting
pub mod FlushAll

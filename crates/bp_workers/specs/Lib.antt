-- Workers over one pool.
pub mod Lists
pub mod Giving
pub mod Workers
pub mod Sharing
pub mod Jobs
pub mod Runs
-- What a fix that waits adds to its client's list, and how far it raises a mark.
pub mod Logs
pub mod Tries

-- Workers over a pool in parts.
pub mod Workers
pub mod Logs
pub mod Jobs
pub mod Runs

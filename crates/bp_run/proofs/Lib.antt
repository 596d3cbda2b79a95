pub mod Drawn
pub mod Naming
pub mod Opened
pub mod Splitting
pub mod Stopping
pub mod Threads
pub mod Working

pub mod Asking
pub mod Making
pub mod Reading
pub mod Ending
pub mod Posting
pub mod Drains
pub mod Keeping
pub mod Reserving
-- The ghost steps of a board, and what the walks share.
pub mod Steps
pub mod Walks
pub mod Sent

-- What is promised: the limits of the settings, what the histories tell, and who stands at the
-- seats.
pub mod Limits
pub mod Histories
pub mod Seats
pub mod Hands
pub mod Young
-- What a body keeps: blocks in slots, who waits for a purge, and the tree over the seats.
pub mod Kept
pub mod Queue
pub mod SeatList
pub mod Tree
pub mod Replay

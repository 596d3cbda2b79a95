-- What LRU-K reads off the references of one page, and which candidate goes first.
pub mod Burst
pub mod Cut
pub mod Stamp
pub mod Distance
pub mod Candidates
pub mod Numbers
-- What a body may keep of the references, and how a reference moves it.
pub mod Alike
pub mod Shift

-- What is promised: what a caller sees of a core, what each of its calls answers and leaves, and
-- which pages it finds unsaved, and what it counts.
pub mod CoreView
pub mod Outcomes
pub mod Unsaved
pub mod Counts
-- What pieces of entries add, and which work of a device they stand for.
pub mod Added
pub mod Work
-- What a pool is made with where nothing else is said.
pub mod Defaults
-- What a body keeps: that frames, lists and histories agree with the entries so far.
pub mod Agreement

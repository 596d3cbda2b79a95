-- What a judge of trails answers, and what it keeps of the entries so far.
pub mod Setups
pub mod Verdict
pub mod Spans
pub mod Pages
pub mod Seen
pub mod Ranks

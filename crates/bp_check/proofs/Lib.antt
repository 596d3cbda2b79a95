-- Lemmas.
pub mod Reversed
pub mod Comparing
pub mod SpanLemmas
pub mod References
pub mod Noted
pub mod Choosing
pub mod Next
pub mod Rooms
pub mod Judging
pub mod Replying
pub mod PageSteps
pub mod Walks

-- What is promised: what a keeper is seen as, and the entries whose bytes someone else keeps.
pub mod Kept
pub mod Shown

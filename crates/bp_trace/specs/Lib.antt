-- What the bytes of a trace say, what holds of every script, and what is printed of a trail.
pub mod Numbers
pub mod Faults
pub mod Fields
pub mod Record
pub mod Reasons
pub mod Script
pub mod Reading
pub mod Input
pub mod InRange
pub mod Written
pub mod Lines
pub mod Totals
pub mod Report
pub mod Counts
pub mod Pieces
pub mod KeptLines
pub mod NumberLists

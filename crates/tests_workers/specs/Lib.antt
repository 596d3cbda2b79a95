-- What a log says of the trail of its pool.
pub mod Receipts

-- What the rows of a script make of a trail, which rows fit a pool, and how far log rows let the log
-- be marked. Each trail here is newest first.
pub mod Script
pub mod Fits
pub mod LogBound
pub mod InPieces

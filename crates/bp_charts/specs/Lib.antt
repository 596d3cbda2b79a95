-- When pages are due, and what a pool does that knows it.
pub mod Due
pub mod Optimum
pub mod Keys
-- The table of a sweep, as bytes.
pub mod Ratio
pub mod Table
-- What a chart is, as a text.
pub mod Scale
pub mod Places
pub mod Axis
pub mod Within
pub mod Labels
pub mod Chart
pub mod Cells

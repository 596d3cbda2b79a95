-- What is promised: what a list of references says, what a cell of a sweep counts, and which table
-- they give.
pub mod Dense
pub mod References
pub mod Gathering
pub mod Lines
pub mod Column
pub mod Cells
pub mod Referring
pub mod Sweeping

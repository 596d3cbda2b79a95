-- What is promised: what a table of frames and a list of grants are seen as, and what changes of
-- them leave.
pub mod Frames
pub mod GrantLists
pub mod Tables
-- What a body keeps: numbers that rise along a list, and sets of numbers in rows of bits.
pub mod Rising
pub mod PageSets

-- The rule of a frame is kept by each kind of step.
pub mod Masks
pub mod Left
pub mod Totals
pub mod Changes
pub mod Steps
pub mod Parts
pub mod Keeping
pub mod Latch
pub mod Turns
pub mod LatchExamples

-- The rule of the mark is kept by each kind of step.
pub mod KeepsRule

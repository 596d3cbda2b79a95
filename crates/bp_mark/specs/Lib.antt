-- The names of marks, what their seats know, and the rule of the mark.
pub mod Marks
pub mod Views
pub mod Rule

-- What is promised: what the words of a command line name, and what is said where they make no run.
pub mod Command
pub mod Words
pub mod Asked
pub mod Ending
pub mod Decision
-- What a body keeps: a text of one line.
pub mod Line

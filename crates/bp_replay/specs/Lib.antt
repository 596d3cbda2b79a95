-- What a list of passes held is, and what the rows of a script add to a core with one owner.
pub mod HeldLists
pub mod Rows
-- Scripts of client threads, each played by a worker.
pub mod Steps
pub mod Scripts
pub mod Bounds
pub mod Players
pub mod Rules
pub mod ScriptRuns

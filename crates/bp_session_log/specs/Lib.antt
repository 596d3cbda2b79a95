-- What a client's own list keeps, and what each step of a session adds to it.
pub mod Books
pub mod Turns
pub mod Causes
pub mod Events
pub mod Rings
-- What a board and its lines own, and what each call does.
pub mod Owned
pub mod Boards

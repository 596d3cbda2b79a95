-- What is promised: what a trail of entries says, and which are legal. Each trail here is newest
-- first: the entries before one are those that follow it in the list.
pub mod Parameters
pub mod Lists
pub mod Event
pub mod Trail
pub mod Clock
pub mod Passes
pub mod Places
pub mod Saved
pub mod Images
pub mod References
pub mod Victim
pub mod PageMap
pub mod Legal
pub mod Device
pub mod Ends
-- The laws: what each legal trail keeps, and the definitions once more, each in one sentence over
-- the whole list.
pub mod Safety
pub mod Claims
pub mod Sentences
pub mod Wording
-- What a crash leaves, and what redo makes of it.
pub mod Recovery
-- What one call of a client makes of a trail, with all that it asks for.
pub mod Pieces
pub mod HeldPasses
-- What a core has room for, and where a piece of a trail leads.
pub mod Room
pub mod Standing
pub mod Cuts
-- What two lists of one run are compared by, and what is counted of a list.
pub mod Clients
pub mod Totals

-- Lemmas.
pub mod OwnPorts
pub mod WritesSeen

-- Lemmas.
pub mod GoingBack
pub mod Lining
pub mod Raising
pub mod Trying
pub mod Working

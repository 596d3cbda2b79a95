-- What a port that fails once leaves.
pub mod Fuses

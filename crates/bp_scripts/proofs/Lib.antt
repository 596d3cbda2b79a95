pub mod Logged
pub mod InPieces

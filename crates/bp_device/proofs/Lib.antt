pub mod Causes
pub mod Driving
pub mod Owning
pub mod Saving
pub mod SecondTry
pub mod Working

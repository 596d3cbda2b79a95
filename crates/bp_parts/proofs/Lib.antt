mod Setting
mod Returning
mod Striped
mod Asking
mod Raising
pub mod Placing
pub mod Closing
mod Dealing
mod Flushing
mod Finding
mod Summing

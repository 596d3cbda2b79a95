pub mod EndRefusals
pub mod Owned
pub mod Forms
pub mod Outcomes
pub mod Tellers
pub mod Exports
pub mod Texts

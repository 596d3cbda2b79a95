pub mod Walks
pub mod Newest

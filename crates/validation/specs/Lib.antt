pub mod Sets
pub mod Waiting
pub mod Walks

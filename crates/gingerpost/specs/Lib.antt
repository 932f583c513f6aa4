pub mod Arguments
pub mod Room

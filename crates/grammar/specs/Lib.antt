pub mod Limits
pub mod Grammar
pub mod Slots
pub mod Refusals
pub mod Scan
pub mod WellFormed
pub mod Sets

pub mod Contract
pub mod Steps
pub mod Body
pub mod Totals

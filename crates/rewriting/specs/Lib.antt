pub mod Parts
pub mod Visit
pub mod Answer
pub mod Computed
pub mod Demand
pub mod DemandWords
pub mod DemandGrammar

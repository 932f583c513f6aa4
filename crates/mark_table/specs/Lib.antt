pub mod Formed
pub mod Marks
pub mod Places
pub mod Elements

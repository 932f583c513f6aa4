pub mod Forest
pub mod Prefix
pub mod Label
pub mod Place
pub mod Ends
pub mod Places

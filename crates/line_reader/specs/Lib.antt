pub mod Line
pub mod Text
pub mod Says
pub mod Texts

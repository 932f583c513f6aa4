pub mod Numbers
pub mod Lends
pub mod Start
pub mod Result

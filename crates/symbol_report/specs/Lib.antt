pub mod Result
pub mod Agreement

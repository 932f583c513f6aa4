pub mod Word
pub mod Table
pub mod Shape
pub mod Kinds

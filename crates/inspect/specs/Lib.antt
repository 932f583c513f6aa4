pub mod Row
pub mod Chain
pub mod Reads
pub mod Child
pub mod Class
pub mod Inside
pub mod Private
pub mod Refused

pub mod Bytes
pub mod Entry
pub mod LendsBytes
pub mod BytesLaws
pub mod EntryLaws

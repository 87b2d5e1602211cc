pub mod File
pub mod Reading

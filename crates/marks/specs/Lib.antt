pub mod Markable
pub mod Marks

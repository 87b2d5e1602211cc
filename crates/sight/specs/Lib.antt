pub mod Sight
pub mod Operations
pub mod Comparisons

pub mod Aside
pub mod Front
pub mod Lent
pub mod Longest
pub mod Put
pub mod Whole

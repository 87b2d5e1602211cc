pub mod Along
pub mod Filled
pub mod Profile
pub mod Steps
pub mod Walked

pub mod Versions
pub mod ThereAndBack
pub mod MarkedAlike

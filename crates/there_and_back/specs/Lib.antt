pub mod ThereAndBack
pub mod MarkedAlike

pub mod Answers
pub mod Counted
pub mod Reach
pub mod Toward
pub mod Seen
pub mod Steepest
pub mod Widened
pub mod Front

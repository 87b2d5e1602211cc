pub mod OwnMarks
pub mod Small
pub mod Taken

pub mod Differing
pub mod Ends
pub mod SameGrade

pub mod Preview
pub mod SameGrade

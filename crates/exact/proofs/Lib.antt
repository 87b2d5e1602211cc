pub mod Fractions
pub mod Floors

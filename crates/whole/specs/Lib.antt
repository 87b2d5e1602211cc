pub mod Fill
pub mod Floor
pub mod Fractions
pub mod Placed

pub mod Distance
pub mod PassingDistance

pub mod Laws
pub mod PassingDistance

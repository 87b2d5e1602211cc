pub mod Listing
pub mod Put

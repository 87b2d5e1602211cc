pub mod Turning
pub mod LastHeight

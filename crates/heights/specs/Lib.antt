pub mod Profile
pub mod Heights
pub mod Walk

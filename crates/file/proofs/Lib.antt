pub mod Numbers
pub mod Overlong
pub mod Sound
pub mod Stations

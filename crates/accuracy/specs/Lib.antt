pub mod Accuracy
pub mod PassingAccuracy

pub mod Accepted
pub mod UpTo

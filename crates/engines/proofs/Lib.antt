pub mod SameSights
pub mod AtMostTwo

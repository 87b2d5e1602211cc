pub mod Back
pub mod Mark

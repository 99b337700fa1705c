pub mod Below
pub mod Rows
pub mod Sound
pub mod TwoSteps
pub mod Told

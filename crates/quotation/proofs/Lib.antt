pub mod People
pub mod Studio

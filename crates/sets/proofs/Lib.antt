pub mod Masks
pub mod Rows
pub mod Tables
pub mod Words

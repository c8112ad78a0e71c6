pub mod Back
pub mod Rows
pub mod Rooms
pub mod Steps
pub mod Fits

pub mod Coming
pub mod Guiding
pub mod Moving
pub mod Passed

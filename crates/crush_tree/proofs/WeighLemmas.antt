pub mod OneDevice
pub mod Subtree
pub mod Given
pub mod Others
pub mod Replaced

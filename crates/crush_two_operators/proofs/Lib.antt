pub mod Crossing
pub mod Order
pub mod Following

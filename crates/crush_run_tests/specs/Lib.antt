pub mod Pairs
pub mod Seats

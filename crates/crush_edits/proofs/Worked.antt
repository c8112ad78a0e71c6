pub mod Alone
pub mod Batches
pub mod Examples
pub mod Least
pub mod Others
pub mod Placing
pub mod Refused

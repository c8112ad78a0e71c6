pub mod Codes
pub mod MapData
pub mod WrittenItems

pub mod Building
pub mod Built
pub mod Codes
pub mod Faults
pub mod Pending
pub mod Rules

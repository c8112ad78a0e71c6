pub mod Back
pub mod Counted
pub mod Given
pub mod Indexed
pub mod Naming
pub mod Placed
pub mod Removing
pub mod AnswersKept

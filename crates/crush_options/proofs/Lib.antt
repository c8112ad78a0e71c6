pub mod CommandLines
pub mod Pushes
pub mod Reading

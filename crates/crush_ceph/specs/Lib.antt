pub mod ForCeph
pub mod Steps
pub mod Commands
pub mod CephText
pub mod LineEdits
pub mod LawCommands
pub mod LawLines

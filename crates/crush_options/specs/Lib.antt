pub mod Options
pub mod OutputFlags
pub mod Verbs

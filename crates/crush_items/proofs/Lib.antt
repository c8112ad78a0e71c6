pub mod EntryLaws
pub mod HasLaws
pub mod PlaceLaws
pub mod RunLaws
pub mod Sorting
pub mod Told
pub mod WalkLaws

pub mod Among
pub mod Going
pub mod InTurn
pub mod SamePlans

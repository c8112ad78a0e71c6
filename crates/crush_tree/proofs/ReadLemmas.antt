pub mod Items
pub mod Below
pub mod Tops
pub mod Parts
pub mod Columns

-- What the crate's contracts cite beyond the rules.
pub mod Laid
pub mod Layouts
pub mod Parts

-- What the translator's contracts cite beyond the rules, bottom first.
pub mod Keys
pub mod Cells
pub mod Surveyed
pub mod Rows
pub mod Lending
pub mod Answers

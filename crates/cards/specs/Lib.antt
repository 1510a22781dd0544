-- What the program's contracts cite beyond the rules.
pub mod Marked

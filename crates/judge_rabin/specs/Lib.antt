-- What the contracts cite beyond the rules and the words.
pub mod Marks

-- What the crate's contracts cite beyond the rules, bottom first.
pub mod Places
pub mod Views
pub mod Visiting
pub mod Handing
pub mod Walking
pub mod Reaches
pub mod Meeting
pub mod Calls

-- Laws that several of the crate's proofs cite.
pub mod Marks
pub mod Columns
pub mod Remainders
pub mod Kept
pub mod Copies
pub mod Phases
pub mod Found
pub mod Choices
pub mod Judging
pub mod Filled
pub mod Lent

-- Laws behind the proofs of the planner's functions.
pub mod Stored
pub mod Tested
pub mod Rounds
pub mod Multiples
pub mod Internals
pub mod Stages
pub mod Sorting

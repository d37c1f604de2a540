-- 01's rules, one file for each of its sections and in its order. Words that the rules are written in: Counting.
pub mod Counting
pub mod Sizes
pub mod Tables
pub mod Rows
pub mod Chains
pub mod Order
pub mod Refusals
pub mod Plan
pub mod File
pub mod Views
pub mod Steps
pub mod Range
pub mod Calls
pub mod Fresh
pub mod Answers
pub mod Sampling
pub mod Runs

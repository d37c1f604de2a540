-- What the boundary for C says: an answer as one number, the words of a plan and of a state by their places, and what each of the five
-- functions promises.
pub mod Codes
pub mod Layout
pub mod Widths
pub mod Columns
pub mod Rows
pub mod Marks
pub mod Elements
pub mod PlanWords
pub mod StateWords
pub mod Boundary

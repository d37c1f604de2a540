-- The words that the contracts of the steps are written in beside the rules' own: what a state fits, whose deadlines fall, and what is found.
pub mod Marks
pub mod Fits
pub mod Copies
pub mod Found
pub mod Machine
pub mod Start

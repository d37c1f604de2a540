-- Listed: from the reader's and the planner's answers to what is printed, and that a file has one listing.
pub mod Listed

-- Line: what a line of the step program asks for.
pub mod Line

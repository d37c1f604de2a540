-- Digits: a number's digits as the kit's `io` gives them. Filling: text put behind text, and lines in a buffer. Lengths: how long a line
-- can be.
pub mod Digits
pub mod Filling
pub mod Lengths

-- Decode: the laws of a line's word and call, and how much of a line decides it.
pub mod Decode

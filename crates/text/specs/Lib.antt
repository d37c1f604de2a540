-- The lines that the programs print (Lines), and how they stand in a lent buffer (Buffers).
pub mod Lines
pub mod Buffers

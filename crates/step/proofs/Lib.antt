-- Sessions: input in pieces, and 13 kept bytes, print what the lines of the whole input print. Lines: a line's kept bytes in their array.
-- Turns: one byte more of a piece. Openings: what the machine file gives, and that a file and an input have one text. Runs: a run of the
-- program prints that text. SomeRun: each start and each input have a run.
pub mod Sessions
pub mod Lines
pub mod Turns
pub mod Openings
pub mod Runs
pub mod SomeRun

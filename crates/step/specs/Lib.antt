-- Session: what the step program prints for its input, by lines and byte by byte. Opening: what it makes of the machine file. Serving:
-- the program's own desk as a moment of the session. Running: a run of the program, by the contracts of the functions it calls.
pub mod Session
pub mod Opening
pub mod Serving
pub mod Running

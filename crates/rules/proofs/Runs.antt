-- Demand 3: runs of the executive from an accepted fresh start. Jobs counts one task's jobs. OneTask and OneRow say what a run keeps of
-- one task and of one connection row; Parts, of the whole state. Tick, Choice and Completion: each step keeps it. Moments and Invariant:
-- so it holds at every moment before a miss. Reads, Words and Twice draw the demand from it, and Always what holds besides.
pub mod Jobs
pub mod OneTask
pub mod OneRow
pub mod Parts
pub mod Tick
pub mod Choice
pub mod Completion
pub mod Moments
pub mod Invariant
pub mod Reads
pub mod Words
pub mod Twice
pub mod Always
pub mod Start

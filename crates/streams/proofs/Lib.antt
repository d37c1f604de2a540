-- OneAnswer: what was read is settled by how much was read.
pub mod OneAnswer

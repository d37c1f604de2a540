-- Laws of the boundary for C. The functions: Layers, lists written into words; Front, the first of the lent words; Turns, the loops; Narrow,
-- answers that fit their number; Room, by whether there is room; CallLaws, the statements. The words: Encoded, WordPlaces, StateBack and WordsBack, there and
-- back. The whole: OneAnswer, and Through, that the boundary is the executive.
pub mod Front
pub mod Layers
pub mod Turns
pub mod Narrow
pub mod Room
pub mod Encoded
pub mod Fields
pub mod WordPlaces
pub mod StateBack
pub mod WordsBack
pub mod CallLaws
pub mod OneAnswer
pub mod Through

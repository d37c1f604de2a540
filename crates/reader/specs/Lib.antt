-- What the reader promises (Read; of a file's own tables Tables), and how its items stand for those of the machine file (Items).
pub mod Items
pub mod Read
pub mod Tables

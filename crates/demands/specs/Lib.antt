-- What is promised of whole runs, for every accepted fresh start (Demands); what a program can be given and can give (Programs); and the
-- wrong programs that the statements shut out (ShutOut).
pub mod Demands
pub mod Programs
pub mod ShutOut

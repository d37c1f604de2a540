-- Named: the count of the sampling rule is 01's last job. Held: what the rules give, a program's types hold. Runs: programs that meet their
-- contracts have the rules' runs. Demands: demand 3 for every accepted fresh start. ShutOut: no wrong program of 01's list meets its
-- statement. CopiesAtFirst: one of them breaks demand 3 besides. Premises: what the theorems ask for can be had.
pub mod Named
pub mod Held
pub mod Runs
pub mod Demands
pub mod ShutOut
pub mod CopiesAtFirst
pub mod Premises

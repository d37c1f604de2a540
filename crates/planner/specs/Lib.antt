-- What the planner's own functions promise each other. The statement of `plan` itself is `PlanIs`, of the rules.
pub mod Places
pub mod Rounds
pub mod Multiples
pub mod Internal
pub mod Sorting
pub mod Stages

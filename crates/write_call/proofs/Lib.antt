-- The cases of the writer's answer.
pub mod Answers

-- Laws by which stores and lengths of parts in the writer's form are proved.
pub mod Writing

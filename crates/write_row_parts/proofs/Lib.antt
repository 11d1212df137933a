-- Laws by which stores are proved (Writing), and the parts against the writer's form (Laws).
pub mod Writing
pub mod Laws

pub mod Bodies
pub mod Components

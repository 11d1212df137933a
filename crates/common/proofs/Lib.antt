-- The general laws, which every crate above cites: how definitions choose (Choose), finite checks (Finite), what an answer says
-- (Said), what reading reads back (RoundTrip), gives (Gives) and took before (Took), bytes that stand (Stands), and stores (Splices, Puts).
pub mod Choose
pub mod Finite
pub mod Said
pub mod RoundTrip
pub mod Gives
pub mod Took
pub mod Splices
pub mod Puts
pub mod Stands

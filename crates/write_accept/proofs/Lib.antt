-- A record that is taken (Goods), and that what is taken fits the writer's form (Fitting); a listed item's record is read back (Spelled), of
-- values and cells (Sound), partitions, rows, markers and ends (Heads, Flagging), in turn (Back), all of Data (Again). What a record says is
-- listed as it stood (Items, Listed), and contents list what they show (Shows, Lying). The writer against the listing (Laws, Schemas, Answers);
-- places aside (Moved, Carried), so that exactly the listed tables are taken (Exactly). One entry or partition at a time (Unfolds). Examples (Vectors).
pub mod Goods
pub mod Fitting
pub mod Spelled
pub mod Sound
pub mod Heads
pub mod Flagging
pub mod Back
pub mod Again
pub mod Items
pub mod Listed
pub mod Shows
pub mod Lying
pub mod Laws
pub mod Schemas
pub mod Answers
pub mod Moved
pub mod Carried
pub mod Exactly
pub mod Unfolds
pub mod Vectors

-- Laws behind the proofs of `reachability`.
pub mod ByteLaw
pub mod StandsLaw
pub mod ReachLaw
pub mod SeedLaw
pub mod CountLaw
pub mod TakeLaw
pub mod EnterLaw
pub mod RowLaw
pub mod SpreadLaw
pub mod SearchLaw

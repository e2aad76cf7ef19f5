-- Definitions beside the papers' own, which contracts and the laws in proofs/Laws share.
pub mod Decided
pub mod Lending
pub mod Order
pub mod Ruling
pub mod Search
pub mod Steps

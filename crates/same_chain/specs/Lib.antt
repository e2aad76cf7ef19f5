-- Moves texts that say the same chain: lines in another order, repeated pairs, the clean copy. Theorems has what follows.
pub mod Digits
pub mod Joined
pub mod MovesText
pub mod Pairs
pub mod Rising
pub mod Cost
pub mod Chains
pub mod Copies
pub mod Shuffled
pub mod SameJob
pub mod SameRates
pub mod Theorems

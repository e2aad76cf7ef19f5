-- The ends of a next move as the words and the operand's row give them, and that they are those of the chain.
pub mod Row
pub mod Ends
pub mod Shown

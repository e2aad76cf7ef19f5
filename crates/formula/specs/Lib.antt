-- The size of a formula; its nodes in a row, how they are laid from the tokens and read back; the tests of the nodes; what is read of a text.
pub mod Size
pub mod Nodes
pub mod Operands
pub mod FormulaAt
pub mod Pass
pub mod Listed
pub mod Waiting
pub mod Laying
pub mod Route
pub mod Reading
pub mod Names
pub mod Stands
pub mod ReadBack
pub mod Each
pub mod Tested
pub mod Stored

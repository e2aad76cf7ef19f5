-- The checker's job and buffers, and what its functions ask and leave.
pub mod Job
pub mod Checked
pub mod Room
pub mod Report
pub mod Leaves
pub mod Alike
pub mod OtherMarks

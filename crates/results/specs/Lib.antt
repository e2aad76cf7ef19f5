-- Columns of results: their laws, and the columns of a filled report.
pub mod Column
pub mod Report

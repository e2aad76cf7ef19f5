-- The laws of the report and of the finished job.
pub mod ReportLaw
pub mod CheckLaw

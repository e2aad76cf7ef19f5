-- Laws behind the text for a job.
mod Limits
mod Lines
mod Printing

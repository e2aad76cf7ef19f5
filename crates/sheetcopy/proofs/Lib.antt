-- Laws behind the text for a copy.
mod CopyLaw

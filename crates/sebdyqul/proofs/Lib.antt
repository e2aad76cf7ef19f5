-- Laws behind the library's functions.
mod CalledLaw
mod CopyLaw

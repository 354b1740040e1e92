mod Loops
mod Valid

mod Puts
mod Turns

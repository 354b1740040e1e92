pub mod Dump
pub mod Names

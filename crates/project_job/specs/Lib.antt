pub mod JobOf

mod Budget
mod Told

mod Sets
mod Tree

mod Judged
mod Trees
mod RightExprs
mod RightStmts

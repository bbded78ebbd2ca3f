mod Counted
mod Filters
mod Fronts
mod InTurn
mod LineLemmas
mod Marks
mod Rows

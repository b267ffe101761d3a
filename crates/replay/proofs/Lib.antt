mod Replies
mod Turns
mod Orders
mod Counts
mod Moves
mod Sheets
mod SheetRuns
mod Readers

pub mod LogViews
pub mod Entries
pub mod Replays
pub mod SheetRecords
pub mod SessionCounts

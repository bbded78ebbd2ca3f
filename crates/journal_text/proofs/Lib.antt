mod EachField
mod Entries
mod Made
mod Marks
mod Outcomes
mod PlainCommands
mod SamePlaces
mod Saving
mod SortedItems
mod Spaces
mod PlainFields
mod WrittenFields
mod WrittenInputs
mod WrittenReplies
mod WrittenLines
mod ProperLines
pub mod ForCallers

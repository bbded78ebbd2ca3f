mod BytesFields
mod LineForms
mod WordTables
mod PlainCommands
mod Within
pub mod ForCallers

mod Alike
mod Left
mod Made
mod Reach
mod Linked
mod Ranked
mod Private
mod Ends
mod Taken
mod Few
mod Seen
mod FewEnd
pub mod ForCallers

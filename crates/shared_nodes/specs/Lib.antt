pub mod Erasing
pub mod Gathering
pub mod Looking
pub mod NodeLists
pub mod Rounds

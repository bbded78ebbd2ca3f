mod SessionLemmas
mod TaskLemmas
pub mod ForCallers

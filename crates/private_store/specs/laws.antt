-- Invariants, and words of laws above the rules: what no reader has to believe.
pub mod Made
pub mod NodeInputs
pub mod Invariants
pub mod Listed
pub mod Answers

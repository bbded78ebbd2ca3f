mod HeldLemmas
mod PathLemmas

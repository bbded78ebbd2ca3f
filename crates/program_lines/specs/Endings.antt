-- What the process says at its end, and its status.
use Rattle.std.specs.Prelude.{ℕ, List, ◌++◌, codes, decimal, Result, Ok, Err, ⊤}
use Rattle.program_lines.specs.declared.fault.Fault.{Fault}
use Rattle.program_lines.specs.declared.fault.Fault.TheVariants.{NotAStep, Input, Output, Socket, Folded, NoMemory}

-- the line of a fault, without its line feed
abbrev pub fault_text : Fault → List ℕ
fault_text (NotAStep line) = codes "store: line " ++ decimal line ++ codes ": not a step"
fault_text Input = codes "store: input failed"
fault_text Output = codes "store: output failed"
fault_text Socket = codes "store: socket failed"
fault_text Folded = codes "store: journal folded"
fault_text NoMemory = codes "store: no memory"

-- 1 after a fault
abbrev pub status_of : Result ⊤ Fault → ℕ
status_of (Ok u) = 0
status_of (Err fault) = 1

-- reading fails for the input, or out of memory
abbrev pub IsReadingFault : Fault → Type 0
IsReadingFault (NotAStep n) = ⊥
IsReadingFault Input = ⊤
IsReadingFault Output = ⊥
IsReadingFault Socket = ⊥
IsReadingFault Folded = ⊥
IsReadingFault NoMemory = ⊤

-- What the options of a command line ask for.
use Rattle.std.specs.Prelude.{◌≡◌, ◌≢◌, ℕ, true, List, Some, codes, ⊤}
use Rattle.std.specs.Str.Parse.{digits_value, without_leading_plus}
use Rattle.clap.specs.declared.parser.matches.Found.{Found}
use Rattle.clap.specs.Matches.{one_text}
use Rattle.clap.specs.declared.error.kind.ErrorKind.{ErrorKind}
use Rattle.clap.specs.declared.error.kind.ErrorKind.TheVariants.{DisplayHelp, DisplayVersion}
use Rattle.world_core.specs.declared.ClusterSize.{ClusterSize}
use Rattle.world_core.specs.Worlds.{is_shape}
use Rattle.schedule_runs.specs.declared.command_line.Task.{Task}
use Rattle.schedule_runs.specs.declared.command_line.Task.TheVariants.{Run, Serve, Replay}

-- the text that was given for the option, or its default, is the number in decimal digits
pub record IsOption (found : Found) (name : List ℕ) (number : ℕ) : Type 0 where
  pub text : List ℕ
  pub given : one_text found name ≡ Some text
  pub spelled : digits_value 10 (without_leading_plus text) ≡ number

-- the shape that the options ask for: `--nodes` nodes with `--memory` bytes each
pub record Asks (found : Found) (shape : ClusterSize) : Type 0 where
  pub in_range : is_shape shape ≡ true
  pub nodes : IsOption found (codes "nodes") shape.nodes
  pub memory : IsOption found (codes "memory") shape.memory

-- the nodes that a task has are such as there may be
abbrev pub IsProgramTask : Task → Type 0
IsProgramTask (Run running) = is_shape running.shape ≡ true
IsProgramTask (Serve serving) = is_shape serving.shape ≡ true
IsProgramTask (Replay path) = ⊤

-- 0 after help or the version, 2 after a mistake
pub record IsStatusOfError (kind : ErrorKind) (status : ℕ) : Type 0 where
  pub help : kind ≡ DisplayHelp → status ≡ 0
  pub version : kind ≡ DisplayVersion → status ≡ 0
  pub mistake : kind ≢ DisplayHelp → kind ≢ DisplayVersion → status ≡ 2

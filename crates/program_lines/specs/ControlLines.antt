-- Which order a line of a control connection spells.
use Rattle.std.specs.Prelude.{◌≡◌, ℕ, ◌<◌, List, [], ◌∷◌, Option, Some, None, codes}
use Rattle.schedule_text.specs.Fields.{IsJob, IsNode, IsNumber, fields_of}
use Rattle.schedule_text.specs.Reading.{IsNodeAlone}
use Rattle.program_lines.specs.declared.control_lines.ControlLine.{ControlLine}
use Rattle.program_lines.specs.declared.control_lines.ControlLine.TheVariants as asked
use Rattle.program_lines.specs.declared.control_lines.Look.{Look}
use Rattle.program_lines.specs.declared.control_lines.Look.TheVariants as look
use Rattle.program_lines.specs.declared.control_lines.LookAt.{LookAt}
use Rattle.program_lines.specs.declared.control_lines.SessionAt.{SessionAt}
use Rattle.program_lines.specs.Orders.{IsOrder, IsWithin}

-- the first word of a line that asks for this
abbrev pub look_word : Look → List ℕ
look_word look.Jobs = codes "jobs"
look_word (look.Usage job) = codes "usage"
look_word look.Sessions = codes "sessions"
look_word look.Streams = codes "streams"
look_word (look.Counts job) = codes "counts"

-- `NODE JOB`, each in its field
abbrev pub IsUsageOf : ℕ → List ℕ → List ℕ → ℕ → Look → Type 0
IsUsageOf nodes node job n (look.Usage j) = IsNode nodes node n × IsJob job j
IsUsageOf nodes node job n _ = ⊥

abbrev pub IsJobLook : ℕ → List (List ℕ) → LookAt → Type 0
IsJobLook nodes (node ∷ job ∷ []) x = IsUsageOf nodes node job x.node x.look
IsJobLook nodes _ x = ⊥

-- `NODE`, of the node itself
abbrev pub IsCountsAlone : ℕ → List ℕ → ℕ → Look → Type 0
IsCountsAlone nodes node n (look.Counts None) = IsNode nodes node n
IsCountsAlone nodes node n _ = ⊥

-- `NODE JOB`, of the job there
abbrev pub IsCountsAt : ℕ → List ℕ → List ℕ → ℕ → Look → Type 0
IsCountsAt nodes node job n (look.Counts (Some j)) = IsNode nodes node n × IsJob job j
IsCountsAt nodes node job n _ = ⊥

abbrev pub IsCountsLook : ℕ → List (List ℕ) → LookAt → Type 0
IsCountsLook nodes (node ∷ []) x = IsCountsAlone nodes node x.node x.look
IsCountsLook nodes (node ∷ job ∷ []) x = IsCountsAt nodes node job x.node x.look
IsCountsLook nodes _ x = ⊥

-- what comes after that word
abbrev pub IsLookFields : ℕ → List (List ℕ) → ℕ → Look → Type 0
IsLookFields nodes fields node look.Jobs = IsNodeAlone nodes fields node
IsLookFields nodes fields node (look.Usage job) = IsJobLook nodes fields (record { node = node; look = look.Usage job })
IsLookFields nodes fields node look.Sessions = IsNodeAlone nodes fields node
IsLookFields nodes fields node look.Streams = IsNodeAlone nodes fields node
IsLookFields nodes fields node (look.Counts job) = IsCountsLook nodes fields (record { node = node; look = look.Counts job })

abbrev pub IsLookAfter : ℕ → List ℕ → List (List ℕ) → LookAt → Type 0
IsLookAfter nodes word fields x = (word ≡ look_word x.look) × IsLookFields nodes fields x.node x.look

abbrev pub IsLookLine : ℕ → List (List ℕ) → LookAt → Type 0
IsLookLine nodes [] x = ⊥
IsLookLine nodes (word ∷ fields) x = IsLookAfter nodes word fields x

-- `NODE JOB SESSION`, each in its field
abbrev pub IsSessionAt : ℕ → List ℕ → List ℕ → List ℕ → SessionAt → Type 0
IsSessionAt nodes node job session x = IsNode nodes node x.node × IsJob job x.job × IsNumber session x.session

abbrev pub IsKickFields : ℕ → List (List ℕ) → SessionAt → Type 0
IsKickFields nodes (node ∷ job ∷ session ∷ []) x = IsSessionAt nodes node job session x
IsKickFields nodes _ x = ⊥

-- `kick` and these
abbrev pub IsKickAfter : ℕ → List ℕ → List (List ℕ) → SessionAt → Type 0
IsKickAfter nodes word fields x = (word ≡ codes "kick") × IsKickFields nodes fields x

abbrev pub IsKickLine : ℕ → List (List ℕ) → SessionAt → Type 0
IsKickLine nodes [] x = ⊥
IsKickLine nodes (word ∷ fields) x = IsKickAfter nodes word fields x

-- a line of the operator's, `close now`, `jobs NODE`, `usage NODE JOB`, `sessions NODE`, `streams NODE`, `counts NODE`, `counts NODE JOB` or
-- `kick NODE JOB SESSION`
abbrev pub IsControlLine : ℕ → List ℕ → ControlLine → Type 0
IsControlLine nodes text (asked.Order order) = IsOrder nodes text order
IsControlLine nodes text asked.CloseNow = text ≡ codes "close now"
IsControlLine nodes text (asked.Look node what) = IsLookLine nodes (fields_of text) (record { node = node; look = what })
IsControlLine nodes text (asked.Kick node job session) = IsKickLine nodes (fields_of text) (record { node = node; job = job; session = session })

-- it is for one of so many nodes, or for the whole cluster
abbrev pub IsAskedWithin : ℕ → ControlLine → Type 0
IsAskedWithin count (asked.Order order) = IsWithin count order
IsAskedWithin count asked.CloseNow = Unit {0}
IsAskedWithin count (asked.Look node what) = node < count
IsAskedWithin count (asked.Kick node job session) = node < count

-- The marks of a store's copy: what the laws compare.
use Rattle.std.specs.Prelude.{Bool, true, false, if◌then◌else◌, Option, Some}
use Rattle.obj_id.specs.declared.messages.Digest.{Digest}
use Rattle.obj_id.specs.declared.works.WorkKind.{WorkKind}
use Rattle.obj_id.specs.declared.works.WorkKind.TheVariants.{Write, Read}
use Rattle.private_store.specs.declared.inputs.WorkVerdict.{WorkVerdict}
use Rattle.private_store.specs.declared.inputs.WorkVerdict.TheVariants as work
use Rattle.private_store.specs.rules.Shape.{Copy, WorkInFlight}
use Rattle.object_state.specs.Marks.{Marks, marks_written, marks_read_back}

-- the marks of a copy with this digest, for which this work is in flight
abbrev pub marks_of : Copy → Option Digest → Option WorkKind → Marks
marks_of copy digest working =
    record {
      state = copy.state;
      kind = copy.kind;
      length = copy.length;
      digest = digest;
      backed = copy.backed;
      doomed = copy.doomed;
      working = working;
      fault = copy.fault;
    }

-- whether the answer is that the call failed
abbrev pub has_failed : WorkVerdict → Bool
has_failed work.Failed = true
has_failed _ = false

-- the marks of a copy once the work that was in flight for it is answered
abbrev pub marks_answered : Copy → Option Digest → WorkInFlight → WorkVerdict → Marks
marks_answered copy digest w verdict =
    if w.writes
    then marks_written (marks_of copy digest (Some Write)) w.number (has_failed verdict)
    else marks_read_back (marks_of copy digest (Some Read)) verdict

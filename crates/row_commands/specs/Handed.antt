-- What a device worker is given of a work.
use Rattle.std.specs.Prelude.{ℕ, ◌==◌, if◌then◌else◌, find, List, Option, Some, None, unwrap_or, option_map}
use Rattle.std.specs.Option.{option_and_then}
use Rattle.obj_id.specs.declared.works.Work.{Work}
use Rattle.obj_id.specs.declared.works.WorkKind.TheVariants as kind
use Rattle.private_store.specs.rules.Tables.{at}
use Rattle.private_store.specs.rules.Shape.{Copy, WorkInFlight}
use Rattle.private_store.specs.rules.Contents.{View, bytes_at}
use Rattle.private_store.specs.rules.Private.{key_of}

-- a work with its key, its length and a write's bytes
abbrev pub row_work_given : ℕ → View → WorkInFlight → Copy → Work (List ℕ)
row_work_given job view w copy =
    record {
      job = record { 0 = job };
      number = w.number;
      kind = if w.writes then kind.Write else kind.Read;
      key = key_of job (if w.writes then w.number else unwrap_or copy.backed 0);
      length = copy.length;
      payload = if w.writes then Some (bytes_at view.contents.bytes w.id) else None;
    }

-- the work of the job under this number
abbrev pub row_work_of : ℕ → ℕ → View → Option (Work (List ℕ))
row_work_of job number view =
    option_and_then (λ w. option_map (row_work_given job view w) (at view.shape.copies w.id))
    (find (λ w. w.number == number) view.shape.works)

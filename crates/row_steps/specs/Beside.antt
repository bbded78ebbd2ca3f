-- What stands beside a row at its node, and the job's store, without contents, that both are.
use Rattle.std.specs.Prelude.{ℕ, List, map, length, ◌==◌, not, ◌&&◌, filter}
use Rattle.obj_id.specs.declared.ids.ObjectId.{ObjectId}
use Rattle.private_store.specs.rules.Tables.{ById}
use Rattle.private_store.specs.rules.Shape.{WorkInFlight, GrantGiven, Seen, Shape, live}
use Rattle.private_store.specs.rules.Grants.{StandingGrant}
use Rattle.grants.specs.Table.{given_by as grants_given}
use Rattle.grants.specs.Private.{as_given, taken_by}
use Rattle.spill_work.specs.Line.{WorkLine, works_of, used_by}
use Rattle.job_row.specs.Row.{Row, copies_of}
use Rattle.obj_id.specs.declared.ids.TaskNo.{TaskNo}
use Rattle.obj_id.specs.Ids.{same_task}
use Rattle.std.specs.Option.{option_map_or}
use Rattle.job_row.specs.Checks.{end_task_check}

-- what a row is shown beside: what else the node keeps of the job
pub record SharedTables : Type 0 where
  -- the works in flight, in the order asked
  pub works : List WorkInFlight
  -- the last number that a work had
  pub used : ℕ
  -- the grants that it gave, in the order given
  pub given : List GrantGiven
  -- what others granted, and the bytes of it
  pub received : ById Seen
  pub bytes : ObjectId → List ℕ

-- the grants that the job gave
abbrev pub row_given_by : List StandingGrant → ℕ → List GrantGiven
row_given_by grants job = map as_given (grants_given job grants)

-- what the job was granted, where objects have these bytes
abbrev pub received_by : (ObjectId → List ℕ) → List StandingGrant → ℕ → ById Seen
received_by bytes grants job = taken_by (λ id. length (bytes id)) job grants

-- of one job: its works in the line of all jobs, and what it gave and received by the grants that stand, where objects
-- have these bytes
abbrev pub beside_of : WorkLine → List StandingGrant → (ObjectId → List ℕ) → ℕ → SharedTables
beside_of line grants bytes job =
    record {
      works = works_of line (record { 0 = job });
      used = used_by line (record { 0 = job });
      given = row_given_by grants job;
      received = received_by bytes grants job;
      bytes = bytes;
    }

-- the bytes of what others granted
abbrev pub received_bytes : SharedTables → ById (List ℕ)
received_bytes beside = map (λ e. (e.0, beside.bytes e.0)) beside.received

-- the job's store without contents
abbrev pub shape_of : Row → SharedTables → Shape
shape_of row beside =
    record {
      job = row.job;
      life = live;
      quota = record { window = row.window.quota; device = row.device };
      copies = copies_of row.copies;
      works = beside.works;
      works_asked = beside.used;
      fetches_begun = row.fetches_begun;
      spill_failed = row.spill_failed;
      ended_tasks = row.ended_tasks;
      given = beside.given;
      received = beside.received;
    }

-- beside the row the grants that the job gave of the task's own objects are gone
abbrev pub beside_ended : ℕ → TaskNo → SharedTables → SharedTables
beside_ended job task beside =
    record beside { given = filter (λ grant. not (grant.id.job.0 == job && same_task task grant.id.task)) beside.given }

-- what stands beside the row after the command, whether it is refused or not
abbrev pub beside_after : Row → TaskNo → SharedTables → SharedTables
beside_after row task beside = option_map_or (λ refusal. beside) (end_task_check row task) (beside_ended row.job task beside)

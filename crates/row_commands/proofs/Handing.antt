-- A row says what a worker is given of a work.
use Rattle.std.proofs.Common.{◌≡◌, ℕ, cond, List, take, Option, Some, None, unwrap_or, option_map, refl, sym, ap, ◌∙◌}
use Rattle.std.specs.Option.{option_and_then}
use Rattle.obj_id.specs.declared.works.Extent.{Extent}
use Rattle.obj_id.specs.declared.works.Work.{Work}
use Rattle.obj_id.specs.declared.works.WorkKind.{WorkKind}
use Rattle.obj_id.specs.declared.works.WorkKind.TheVariants.{Write, Read}
use Rattle.private_store.specs.rules.Tables.{at}
use Rattle.private_store.specs.rules.Shape.{WorkInFlight}
use Rattle.private_store.specs.rules.Copies.{extent_of}
use Rattle.private_store.specs.rules.Contents.{Contents, View}
use Rattle.private_store.specs.rules.Events as events
use Rattle.store_facts.proofs.Tests.{none_some}
use Rattle.job_region.specs.Region.{region_bytes_at as placed_bytes}
use Rattle.spill_work.specs.declared.queue.IoRequest.{IoRequest}
use Rattle.spill_work.specs.Line.{shown}
use Rattle.obj_id.specs.Works.{is_write}
use Rattle.row_commands.specs.Handed.{row_work_given, row_work_of}
use Rattle.row_copy.specs.CopyViews.{CopyView}
use Rattle.job_row.specs.Row.{Row}
use Rattle.row_steps.specs.Shown.{seen, IsShown}
use Rattle.row_commands.proofs.Answering.{copy_at_work, place_at_work}
use Rattle.job_row.proofs.ForCallers.{at-copies_found}
use Rattle.row_steps.specs.Beside.{SharedTables, shape_of}

module _ (row : Row) (beside : SharedTables) (contents : Contents) (h : IsShown row beside contents) (asked : IoRequest) (flying : events.work_of (shape_of row beside) asked.number ≡ Some (shown asked)) where
  abbrev view : View
  view = seen row beside contents

  -- its copy is there
  pub not_absent : {P : Type 0} → at row.copies asked.id ≡ None → P
  not_absent none = let k = copy_at_work row beside contents h asked.number (shown asked) flying in none_some k.0 (sym none ∙ k.1)

  module _ (k : CopyView) (found : at row.copies asked.id ≡ Some k) where
    pub work_is : row_work_of row.job asked.number view ≡ Some (row_work_given row.job view (shown asked) k.copy)
    work_is =
        ap (option_and_then (λ (w : WorkInFlight). option_map (row_work_given row.job view w) (at view.shape.copies w.id))) flying
        ∙ ap (option_map (row_work_given row.job view (shown asked))) (at-copies_found row.copies asked.id k found)

    kind_is : (kind : WorkKind) → kind ≡ cond (is_write kind) Write Read
    kind_is Write = refl
    kind_is Read = refl

    pub work_so : (key n : ℕ) (payload : Option (List ℕ)) → asked.job.0 ≡ row.job → key ≡ cond (is_write asked.kind) asked.number (unwrap_or k.copy.backed 0) → n ≡ k.copy.length
        → ((k : CopyView) (e : Extent) → at row.copies asked.id ≡ Some k → extent_of k.copy ≡ Some e → payload ≡ cond (is_write asked.kind) (Some (take k.copy.length (placed_bytes e row.window.placed))) None)
        → ◌≡◌ {A = Option (Work (List ℕ))} (Some (record { job = asked.job; number = asked.number; kind = asked.kind; key = record { job = asked.job; number = key }; length = n; payload = payload })) (row_work_of row.job asked.number view)
    work_so key n payload own of_key long bytes =
        let p = place_at_work row beside contents h asked.number (shown asked) flying k found in
        let payload_is = bytes k p.0 found p.1 ∙ ap (λ bs. cond (is_write asked.kind) (Some bs) None) (sym (h.bytes asked.id k p.0 found p.1)) in
        (λ i. Some (record { job = record { 0 = own i }; number = asked.number; kind = kind_is asked.kind i; key = record { job = record { 0 = own i }; number = of_key i }; length = long i; payload = payload_is i }))
        ∙ sym work_is

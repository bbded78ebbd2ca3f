-- Copies of some ids changed, one after the other.
use Rattle.std.proofs.Common.{◌≡◌, ℕ, ◌+◌, List, ◌∷◌, drop, sym, ap, ◌∙◌}
use Rattle.obj_id.specs.declared.ids.ObjectId.{ObjectId}
use Rattle.private_store.specs.rules.Tables.{ById}
use Rattle.job_row.specs.Entries.{each_changed, changed}

-- the first of those that are left is changed
pub changed-next : {X : Type 0} (f : X → X) (ids : List ObjectId) (es now : ById X) (i : ℕ) (id : ObjectId) → drop i ids ≡ id ∷ drop (i + 1) ids → now ≡ changed f es id → each_changed f now (drop (i + 1) ids) ≡ each_changed f es (drop i ids)
changed-next f ids es now i id next is = ap (λ t. each_changed f t (drop (i + 1) ids)) is ∙ ap (each_changed f es) (sym next)

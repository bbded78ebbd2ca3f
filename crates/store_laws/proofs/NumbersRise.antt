-- The numbers of works and fetches only rise, as long as the job lives.
use Rattle.std.proofs.Common.{◌≡◌, false, List, Option, refl, sym, ◌∙◌, arith}
use Rattle.obj_id.specs.declared.ids.ObjectId.{ObjectId}
use Rattle.private_store.specs.declared.inputs.Judged.{Judged}
use Rattle.private_store.specs.rules.Shape.{Shape}
use Rattle.private_store.specs.rules.Step.{step}
use Rattle.private_store.specs.laws.Invariants.{NumbersRise, is_end}
use Rattle.private_store.specs.laws.Made.{Edit, asks, fetches, ends}
use Rattle.store_facts.proofs.EachStep.{input_keeps}
use Rattle.store_facts.proofs.Tests.{true_false}

same : (store after : Shape) → after.works_asked ≡ store.works_asked → after.fetches_begun ≡ store.fetches_begun → NumbersRise store after
same store after w f = record { works = omega (arith, w); fetches = omega (arith, f) }

then_rise : {a b c : Shape} → NumbersRise a b → NumbersRise b c → NumbersRise a c
then_rise h k = record { works = omega (arith, h.works, k.works); fetches = omega (arith, h.fetches, k.fetches) }

edit_rises : {x : Judged} → is_end x ≡ false → (used : Option ObjectId) (store after : Shape) → Edit x used store after → NumbersRise store after
edit_rises goes_on used store after (asks writes id stirs) = record { works = omega arith; fetches = omega arith }
edit_rises goes_on used store after (fetches id u n h stirs) = record { works = omega arith; fetches = omega arith }
edit_rises goes_on used store after (ends e lives) = true_false (sym goes_on ∙ e)
edit_rises goes_on used store after _ = same store after refl refl

-- no number is lower after an input other than the job's end
pub numbers_rise : (order : List ObjectId) (store : Shape) (x : Judged) → is_end x ≡ false → NumbersRise store (step order store x).shape
numbers_rise order store x goes_on =
    input_keeps (NumbersRise store) order store x (λ used mid after e h. then_rise h (edit_rises goes_on used mid after e)) (same store store refl refl)

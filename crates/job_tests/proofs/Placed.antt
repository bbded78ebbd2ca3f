-- Extents that are placed stay where one of them is written, or takes bytes over.
use Rattle.std.proofs.Common.{◌≡◌, ℕ, ◌+◌, ◌<◌, ◌≤◌, Bool, true, false, List, [], length, Option, Some, None, Ok, Err, refl, sym, ap, subst, ◌∙◌, arith, nat_eq, cond, ⊎_elim}
use Rattle.std.specs.Prelude.{IsSome, IsSomeAnd}
use Rattle.std.specs.Option.{unwrap_or}
use Rattle.std.specs.Map.{lookup, set_value}
use Rattle.std.proofs.lemmas.Bool.{cases_lt}
use Rattle.std.proofs.lemmas.Bool.Decides.{nat_tests}
use Rattle.std.proofs.lemmas.Cmp.{nat_eq_equiv}
use Rattle.std.proofs.lemmas.Map.{lookup-set_value}
use Rattle.obj_id.specs.declared.works.Extent.{Extent}
use Rattle.private_store.specs.rules.Contents.{overwritten}
use Rattle.job_region.specs.Region.{IsAt, region_bytes_at}
use Rattle.job_region.proofs.ForCallers.{length-overwritten}

abbrev Long : ℕ → Option (List ℕ) → Type 0
Long n o = IsSomeAnd o (λ bytes. length bytes ≡ n)

pub no_err : {A E : Type 0} (x : A) (e : E) → Ok x ≡ Err e → ⊥
no_err x e h = cc

some_long : (n : ℕ) (o : Option (List ℕ)) → Long n o → (IsSome o) × (length (unwrap_or o []) ≡ n)
some_long n None h = absurd h
some_long n (Some x) h = (refl, h)

module _ (old : List (ℕ × List ℕ)) (e : Extent) (was : IsAt e old) where
  pub stays-written : (x : Extent) (off : ℕ) (bytes : List ℕ) → IsAt x old → (x.length < off + length bytes → ⊥) → (new : List (ℕ × List ℕ)) → new ≡ set_value (nat_eq x.offset) old (overwritten (region_bytes_at x old) off bytes) → IsAt e new
  stays-written x off bytes there within new is =
      let found = some_long x.length (lookup (nat_eq x.offset) old) there in
      let ends : off + length bytes ≤ x.length = ⊎_elim (λ (lt : x.length < off + length bytes). absurd (within lt)) (λ (ge : off + length bytes ≤ x.length). ge) (cases_lt x.length (off + length bytes)) in
      let long : length (overwritten (region_bytes_at x old) off bytes) ≡ length (region_bytes_at x old) = length-overwritten (region_bytes_at x old) off bytes (omega (arith, ends, found.1)) in
      let looked : lookup (nat_eq e.offset) new ≡ cond (nat_eq x.offset e.offset) (Some (overwritten (region_bytes_at x old) off bytes)) (lookup (nat_eq e.offset) old) =
      ap (lookup (nat_eq e.offset)) is ∙ lookup-set_value nat_eq_equiv (nat_eq x.offset) (nat_eq_equiv.congr x.offset) e.offset (overwritten (region_bytes_at x old) off bytes) old found.0 in
      subst (Long e.length) (sym looked) (by long (nat_eq x.offset e.offset) refl)
    where
      by : length (overwritten (region_bytes_at x old) off bytes) ≡ length (region_bytes_at x old) → (b : Bool) → nat_eq x.offset e.offset ≡ b → Long e.length (cond b (Some (overwritten (region_bytes_at x old) off bytes)) (lookup (nat_eq e.offset) old))
      by long true t =
          let same : x.offset ≡ e.offset = grind (arith, nat_tests, t) in
          long ∙ ap (λ k. length (unwrap_or (lookup (nat_eq k) old) [])) same ∙ (some_long e.length (lookup (nat_eq e.offset) old) was).1
      by long false t = was

-- an extent that takes bytes over stays where it is
pub stays-adopted : (old : List (ℕ × List ℕ)) (e : Extent) (bytes : List ℕ) → IsAt e old → length bytes ≡ e.length → (new : List (ℕ × List ℕ)) → new ≡ set_value (nat_eq e.offset) old bytes → IsAt e new
stays-adopted old e bytes was long new is =
    let found = some_long e.length (lookup (nat_eq e.offset) old) was in
    let looked : lookup (nat_eq e.offset) new ≡ cond (nat_eq e.offset e.offset) (Some bytes) (lookup (nat_eq e.offset) old) =
    ap (lookup (nat_eq e.offset)) is ∙ lookup-set_value nat_eq_equiv (nat_eq e.offset) (nat_eq_equiv.congr e.offset) e.offset bytes old found.0 in
    subst (Long e.length) (sym looked) (by (nat_eq e.offset e.offset))
  where
    by : (b : Bool) → Long e.length (cond b (Some bytes) (lookup (nat_eq e.offset) old))
    by true = long
    by false = was

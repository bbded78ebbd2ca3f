-- Where the copies of a row lie, after a change of the window or of the copies.
use Rattle.std.proofs.Common.{◌≡◌, ◌≢◌, ℕ, ◌+◌, ◌≤◌, ◌<◌, nat_lt, Bool, true, false, cond, nat_eq, List, [], ◌∷◌, Contains, Option, Some, None, length, refl, sym, ap, subst, ◌∙◌, arith, option_map}
use Rattle.std.specs.Prelude.{◌↔◌, IsSomeAnd, unwrap_or, OnOk, OnErr, Ok, Err, IsSome, IsErrOf}
use Rattle.std.specs.declared.result.Result.{Result}
use Rattle.std.specs.Cmp.{nat_eq_equiv}
use Rattle.std.specs.Map.{lookup, set_value}
use Rattle.std.proofs.lemmas.Map.{lookup-set_value}
use Rattle.std.proofs.lemmas.Bool.Decides.{nat_tests}
use Rattle.obj_id.specs.declared.ids.ObjectId.{ObjectId}
use Rattle.obj_id.specs.declared.works.Extent.{Extent}
use Rattle.obj_id.specs.declared.refusals.Refusal.{Refusal}
use Rattle.obj_id.specs.declared.refusals.Refusal.TheVariants.{OutOfBounds}
use Rattle.private_store.specs.rules.Contents.{overwritten}
use Rattle.store_facts.proofs.Tests.{some_value}
use Rattle.store_facts.proofs.RowContents.{length-overwritten}
use Rattle.job_region.specs.Region.{Region, extents_of, IsAt, region_bytes_at}
use Rattle.private_store.specs.rules.Tables.{ById, at, with_entry}
use Rattle.private_store.specs.rules.Copies.{extent_of}
use Rattle.store_facts.proofs.Rows.{at-put}
use Rattle.obj_id.specs.Ids.{same_id}
use Rattle.store_facts.proofs.Ids.{same_id-equal}
use Rattle.std.specs.Option.{option_map_or, option_and_then}
use Rattle.job_row.specs.Entries.{changed, each_changed}
use Rattle.row_copy.specs.CopyViews.{CopyView}
use Rattle.job_row.specs.Row.{ArePlaced, place_of}
use Rattle.private_store.specs.rules.Extents.{rounded}
use Rattle.private_store.specs.rules.Shape.{Copy}
use Rattle.job_row.proofs.Members.{first_in, later_in}

same_offset : (n : ℕ) → nat_eq n n ≡ true
same_offset n = grind (arith, nat_tests)

other_offset : (m n : ℕ) → m ≢ n → nat_eq m n ≡ false
other_offset m n h = elim (nat_eq m n) as (λ b. nat_eq m n ≡ b → b ≡ false) [ true ↦ λ t. absurd (h (grind (arith, nat_tests, t))) | false ↦ λ _. refl ] refl

-- what is written over an extent keeps all others
module _ (placed : List (ℕ × List ℕ)) (e : Extent) (there : IsAt e placed) (new : List ℕ) where
  some_at : (o : Option (List ℕ)) → IsSomeAnd o (λ bytes. length bytes ≡ e.length) → IsSome o
  some_at (Some x) h = refl
  some_at None h = absurd h

  looked : (q : ℕ) → lookup (nat_eq q) (set_value (nat_eq e.offset) placed new) ≡ cond (nat_eq e.offset q) (Some new) (lookup (nat_eq q) placed)
  looked q = lookup-set_value nat_eq_equiv (nat_eq e.offset) (nat_eq_equiv.congr e.offset) q new placed (some_at (lookup (nat_eq e.offset) placed) there)

  pub bytes-written : region_bytes_at e (set_value (nat_eq e.offset) placed new) ≡ new
  bytes-written = ap (λ o. unwrap_or o []) (looked e.offset ∙ ap (λ b. cond b (Some new) (lookup (nat_eq e.offset) placed)) (same_offset e.offset))

  pub bytes-other : (f : Extent) → e.offset ≢ f.offset → region_bytes_at f (set_value (nat_eq e.offset) placed new) ≡ region_bytes_at f placed
  bytes-other f apart = ap (λ o. unwrap_or o []) (looked f.offset ∙ ap (λ b. cond b (Some new) (lookup (nat_eq f.offset) placed)) (other_offset e.offset f.offset apart))

  pub at-written : length new ≡ e.length → (f : Extent) → IsAt f placed → (e.offset ≡ f.offset → f.length ≡ e.length) → IsAt f (set_value (nat_eq e.offset) placed new)
  at-written long f at same =
      subst (λ o. IsSomeAnd o (λ bytes. length bytes ≡ f.length)) (sym (looked f.offset))
      (elim (nat_eq e.offset f.offset) as (λ b. nat_eq e.offset f.offset ≡ b → IsSomeAnd (cond b (Some new) (lookup (nat_eq f.offset) placed)) (λ bytes. length bytes ≡ f.length)) [
        | true ↦ λ t. long ∙ sym (same (grind (arith, nat_tests, t)))
        | false ↦ λ _. at
      ] refl)

-- a write keeps the extents
extents-written : (placed : List (ℕ × List ℕ)) (e : Extent) → IsAt e placed → (new : List ℕ) → length new ≡ e.length → extents_of (set_value (nat_eq e.offset) placed new) ≡ extents_of placed
extents-written [] e at new long = absurd at
extents-written (p ∷ placed) e at new long = by (nat_eq e.offset p.0) at (extents-written placed e)
  where
    by : (b : Bool) → IsSomeAnd (cond b (Some p.1) (lookup (nat_eq e.offset) placed)) (λ bytes. length bytes ≡ e.length)
        → (IsAt e placed → (new : List ℕ) → length new ≡ e.length → extents_of (set_value (nat_eq e.offset) placed new) ≡ extents_of placed)
        → extents_of (cond b ((p.0, new) ∷ placed) (p ∷ set_value (nat_eq e.offset) placed new)) ≡ extents_of (p ∷ placed)
    by true at rest = ap (λ n. record { offset = p.0; length = n } ∷ extents_of placed) (long ∙ sym at)
    by false at rest = ap (λ es. record { offset = p.0; length = length p.1 } ∷ es) (rest at new long)

-- what is placed is among the extents
pub placed_among : (placed : List (ℕ × List ℕ)) (e : Extent) → IsAt e placed → Contains (extents_of placed) e
placed_among [] e at = absurd at
placed_among (p ∷ placed) e at = by (nat_eq e.offset p.0) refl at (placed_among placed e)
  where
    first : Extent
    first = record { offset = p.0; length = length p.1 }

    by : (b : Bool) → nat_eq e.offset p.0 ≡ b → IsSomeAnd (cond b (Some p.1) (lookup (nat_eq e.offset) placed)) (λ bytes. length bytes ≡ e.length)
        → (IsAt e placed → Contains (extents_of placed) e) → Contains (extents_of (p ∷ placed)) e
    by true t at rest =
        let same : p.0 ≡ e.offset = grind (arith, nat_tests, t) in
        subst (λ x. Contains (extents_of (p ∷ placed)) x) (λ i. record { offset = same i; length = at i }) (first_in first (extents_of placed))
    by false t at rest = later_in first e (extents_of placed) (rest at)

pub long_at : (placed : List (ℕ × List ℕ)) (e : Extent) → IsAt e placed → length (region_bytes_at e placed) ≡ e.length
long_at placed e at = by (lookup (nat_eq e.offset) placed) at
  where
    by : (o : Option (List ℕ)) → IsSomeAnd o (λ bytes. length bytes ≡ e.length) → length (unwrap_or o []) ≡ e.length
    by (Some x) h = h
    by None h = absurd h

-- bytes written into the place of one copy
module _ (placed : List (ℕ × List ℕ)) (places : ObjectId → Option Extent) (h : ArePlaced placed places) (id : ObjectId) (e : Extent) (is : places id ≡ Some e) (new : List ℕ) (long : length new ≡ e.length) where
  same_place : (q : ObjectId) (f : Extent) → places q ≡ Some f → e.offset ≡ f.offset → f ≡ e
  same_place q f lies same = some_value f e (sym lies ∙ ap places (sym (h.apart id q e f is lies same)) ∙ is)

  pub written_placed : ArePlaced (set_value (nat_eq e.offset) placed new) places
  written_placed = record {
    there = λ q f lies. at-written placed e (h.there id e is) new long f (h.there q f lies) (λ same. ap (λ x. x.length) (same_place q f lies same));
    apart = h.apart;
    owned = λ f inside. h.owned f (subst (λ es. Contains es f) (extents-written placed e (h.there id e is) new long) inside);
  }

-- a write that may be refused
pub write_placed : (old new : Region) (places : ObjectId → Option Extent) (h : ArePlaced old.placed places) (id : ObjectId) (e : Extent) → places id ≡ Some e
    → (off : ℕ) (bytes : List ℕ) (r : Result (Unit {0}) Refusal)
    → OnOk r (new ≡ record old { placed = set_value (nat_eq e.offset) old.placed (overwritten (region_bytes_at e old.placed) off bytes) })
    → (IsErrOf r OutOfBounds ↔ (e.length < off + length bytes)) → OnErr r (new ≡ old) → ArePlaced new.placed places
write_placed old new places h id e is off bytes (Ok u) wrote bounds kept =
    let long = long_at old.placed e (h.there id e is) in
    let within : off + length bytes ≤ e.length = elim (nat_lt e.length (off + length bytes)) as (λ b. nat_lt e.length (off + length bytes) ≡ b → off + length bytes ≤ e.length) [
      | true ↦ λ t. absurd (no_err u (bounds.1 (grind (arith, nat_tests, t))))
      | false ↦ λ t. grind (arith, nat_tests, t)
    ] refl in
    subst (λ w. ArePlaced w.placed places) (sym wrote)
    (written_placed old.placed places h id e is (overwritten (region_bytes_at e old.placed) off bytes) (length-overwritten (region_bytes_at e old.placed) off bytes (omega (arith, long, within)) ∙ long))
  where
    no_err : (u : Unit {0}) → IsErrOf {T = Unit {0}} {E = Refusal} (Ok u) OutOfBounds → ⊥
    no_err u e = absurd cc
write_placed old new places h id e is off bytes (Err q) wrote bounds kept = subst (λ w. ArePlaced w.placed places) (sym kept) h

-- places that are the same
pub same_places : (placed : List (ℕ × List ℕ)) (places now : ObjectId → Option Extent) → ((q : ObjectId) → now q ≡ places q) → ArePlaced placed places → ArePlaced placed now
same_places placed places now same h = record {
  there = λ q e lies. h.there q e (sym (same q) ∙ lies);
  apart = λ a b e f i j o. h.apart a b e f (sym (same a) ∙ i) (sym (same b) ∙ j) o;
  owned = λ e inside. ((h.owned e inside).0, same (h.owned e inside).0 ∙ (h.owned e inside).1);
}

-- ---- changes that leave a copy where it lies

abbrev Lies : (CopyView → CopyView) → Type 0
Lies f = (z : CopyView) → extent_of (f z).copy ≡ extent_of z.copy

pub places_changed : (f : CopyView → CopyView) → Lies f → (es : ById CopyView) (id q : ObjectId) → place_of (changed f es id) q ≡ place_of es q
places_changed f lies es id q = by (at es id) refl
  where
    by : (o : Option CopyView) → at es id ≡ o → place_of (option_map_or (λ x. with_entry es id (f x)) o es) q ≡ place_of es q
    by None e = refl
    by (Some z) e = ap (λ o. option_and_then (λ kept. extent_of kept.copy) o) (at-put es id (f z) q) ∙ here (same_id q id) refl
      where
        here : (b : Bool) → same_id q id ≡ b → option_and_then (λ kept. extent_of kept.copy) (cond b (Some (f z)) (at es q)) ≡ place_of es q
        here true t = lies z ∙ sym (ap (λ o. option_and_then (λ kept. extent_of kept.copy) o) (ap (at es) (same_id-equal q id t) ∙ e))
        here false t = refl

module _ (placed : List (ℕ × List ℕ)) (es : ById CopyView) (h : ArePlaced placed (place_of es)) where
  pub changed_placed : (f : CopyView → CopyView) → Lies f → (id : ObjectId) → ArePlaced placed (place_of (changed f es id))
  changed_placed f lies id = same_places placed (place_of es) (place_of (changed f es id)) (places_changed f lies es id) h

  -- where they stand in a map that was changed
  pub now_placed : (f : CopyView → CopyView) → Lies f → (id : ObjectId) (now : ById CopyView) → now ≡ changed f es id → ArePlaced placed (place_of now)
  now_placed f lies id now is = subst (λ t. ArePlaced placed (place_of t)) (sym is) (changed_placed f lies id)

-- and changes of several
pub each_place : (f : CopyView → CopyView) → Lies f → (ids : List ObjectId) (es : ById CopyView) (q : ObjectId) → place_of (each_changed f es ids) q ≡ place_of es q
each_place f lies [] es q = refl
each_place f lies (id ∷ ids) es q = each_place f lies ids (changed f es id) q ∙ places_changed f lies es id q

pub each_placed : (placed : List (ℕ × List ℕ)) (es : ById CopyView) → ArePlaced placed (place_of es) → (f : CopyView → CopyView) → Lies f → (ids : List ObjectId) (now : ById CopyView) → now ≡ each_changed f es ids → ArePlaced placed (place_of now)
each_placed placed es h f lies ids now is = subst (λ t. ArePlaced placed (place_of t)) (sym is) (same_places placed (place_of es) (place_of (each_changed f es ids)) (each_place f lies ids es) h)

-- a copy that isn't resident, where there was none
pub entered_placed : (placed : List (ℕ × List ℕ)) (es : ById CopyView) (id : ObjectId) (k : CopyView) (now : ById CopyView) → at es id ≡ None → k.copy.offset ≡ None → now ≡ with_entry es id k → ArePlaced placed (place_of es) → ArePlaced placed (place_of now)
entered_placed placed es id k now none away is h = subst (λ t. ArePlaced placed (place_of t)) (sym is) (same_places placed (place_of es) (place_of (with_entry es id k)) same h)
  where
    nowhere : (p : Option ℕ) → p ≡ None → extent_of (record k.copy { offset = p }) ≡ None
    nowhere None e = refl
    nowhere (Some o) e = cc

    same : (q : ObjectId) → place_of (with_entry es id k) q ≡ place_of es q
    same q = ap (λ o. option_and_then (λ kept. extent_of kept.copy) o) (at-put es id k q) ∙ by (same_id q id) refl
      where
        by : (b : Bool) → same_id q id ≡ b → option_and_then (λ (kept : CopyView). extent_of kept.copy) (cond b (Some k) (at es q)) ≡ place_of es q
        by true t = nowhere k.copy.offset away ∙ sym (ap (λ o. option_and_then (λ (kept : CopyView). extent_of kept.copy) o) (ap (at es) (same_id-equal q id t) ∙ none))
        by false t = refl

pub at_most_rounded : (n : ℕ) → n ≤ rounded n
at_most_rounded n = omega arith

-- an extent holds the bytes of its copy
pub extent_holds : (copy : Copy) (e : Extent) → extent_of copy ≡ Some e → copy.length ≤ e.length
extent_holds copy e = elim copy.offset as (λ o. option_map (λ at. record { offset = at; length = rounded copy.length }) o ≡ Some e → copy.length ≤ e.length) [
  | None ↦ λ f. absurd cc
  | Some o ↦ λ f.
      let is : record { offset = o; length = rounded copy.length } ≡ e = cc in
      let long : rounded copy.length ≡ e.length = ap (λ (x : Extent). x.length) is in
      let a = at_most_rounded copy.length in
      omega (arith, a, long)
]

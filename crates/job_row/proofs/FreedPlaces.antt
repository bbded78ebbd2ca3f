-- Where the copies of a row lie once one of them has given its place back.
use Rattle.std.proofs.Common.{◌≡◌, ℕ, Bool, true, false, not, ◌||◌, cond, nat_eq, List, [], ◌∷◌, length, Option, Some, None, refl, sym, ap, subst, ◌∙◌, arith}
use Rattle.std.specs.Prelude.{IsSomeAnd, option_to_list}
use Rattle.std.specs.Option.{MatchOption, option_and_then}
use Rattle.std.specs.Map.{lookup}
use Rattle.std.proofs.lemmas.Bool.Decides.{nat_tests}
use Rattle.obj_id.specs.declared.ids.ObjectId.{ObjectId}
use Rattle.obj_id.specs.declared.works.Extent.{Extent}
use Rattle.obj_id.specs.Ids.{same_id}
use Rattle.store_facts.proofs.Ids.{same_id-itself, same_id-equal, same_id-flip}
use Rattle.private_store.specs.declared.faults.Fault.{Fault}
use Rattle.private_store.specs.rules.Tables.{ById, at, without_entry}
use Rattle.private_store.specs.rules.Copies.{extent_of}
use Rattle.store_facts.proofs.Rows.{at-drop, at-put}
use Rattle.store_facts.proofs.Tests.{none_some, false_true}
use Rattle.job_region.specs.Region.{without}
use Rattle.job_row.specs.Entries.{changed}
use Rattle.row_copy.specs.CopyViews.{CopyView, after_failed_restore}
use Rattle.job_row.specs.Row.{place_of, ArePlaced}
use Rattle.lru_evictor.proofs.ForCallers.{goes}
use Rattle.job_row.proofs.Changes.{changed-found, changed-absent}
use Rattle.job_row.proofs.Places.{same_places}
use Rattle.job_row.proofs.Replacing.{lookup-without, left_in}
use Rattle.private_store.specs.declared.faults.FetchFault.{FetchFault}
use Rattle.row_copy.specs.Arriving.{after_failed_fetch}

module _ (placed : List (ℕ × List ℕ)) (es : ById CopyView) (h : ArePlaced placed (place_of es)) (id : ObjectId) where
  abbrev pub gone : List Extent
  gone = option_to_list (place_of es id)

  pub place_left : (q : ObjectId) → place_of (without_entry es id) q ≡ cond (not (same_id id q)) (place_of es q) None
  place_left q = ap (λ o. option_and_then (λ (kept : CopyView). extent_of kept.copy) o) (at-drop es id q) ∙ by (same_id id q)
    where
      by : (b : Bool) → option_and_then (λ (kept : CopyView). extent_of kept.copy) (cond (not b) (at es q) None) ≡ cond (not b) (place_of es q) None
      by true = refl
      by false = refl

  lies_left : (q : ObjectId) (e : Extent) → place_of (without_entry es id) q ≡ Some e → (same_id id q ≡ false) × (place_of es q ≡ Some e)
  lies_left q e lies = by (same_id id q) refl (sym (place_left q) ∙ lies)
    where
      by : (b : Bool) → same_id id q ≡ b → cond (not b) (place_of es q) None ≡ Some e → (same_id id q ≡ false) × (place_of es q ≡ Some e)
      by true s lies = none_some e lies
      by false s lies = (s, lies)

  same_offset : (n : ℕ) → nat_eq n n ≡ true
  same_offset n = grind (arith, nat_tests)

  level : (m n : ℕ) → nat_eq m n ≡ true → m ≡ n
  level m n t = grind (arith, nat_tests, t)

  -- the extent of another copy stays
  pub unmoved : (q : ObjectId) (e : Extent) → same_id id q ≡ false → place_of es q ≡ Some e → goes gone e.offset ≡ false
  unmoved q e other lies = by (place_of es id) refl
    where
      apart : (x : Extent) → place_of es id ≡ Some x → (b : Bool) → nat_eq x.offset e.offset ≡ b → b || false ≡ false
      apart x is false t = refl
      apart x is true t = false_true (sym (same_id-itself id) ∙ ap (same_id id) (h.apart id q x e is lies (level x.offset e.offset t)) ∙ other)

      by : (o : Option Extent) → place_of es id ≡ o → goes (option_to_list o) e.offset ≡ false
      by None is = refl
      by (Some x) is = apart x is (nat_eq x.offset e.offset) refl

  -- and its bytes are found as before
  pub found_left : (q : ObjectId) (e : Extent) → same_id id q ≡ false → place_of es q ≡ Some e → lookup (nat_eq e.offset) (without gone placed) ≡ lookup (nat_eq e.offset) placed
  found_left q e other lies = lookup-without gone placed e.offset (unmoved q e other lies)

  goes_here : (e : Extent) → place_of es id ≡ Some e → goes gone e.offset ≡ true
  goes_here e is = ap (λ o. goes (option_to_list o) e.offset) is ∙ ap (λ b. b || false) (same_offset e.offset)

  pub left_placed : ArePlaced (without gone placed) (place_of (without_entry es id))
  left_placed = record {
    there = λ q e lies. let l = lies_left q e lies in subst (λ o. IsSomeAnd o (λ bytes. length bytes ≡ e.length)) (sym (found_left q e l.0 l.1)) (h.there q e l.1);
    apart = λ a b e f i j o. h.apart a b e f (lies_left a e i).1 (lies_left b f j).1 o;
    owned = λ e inside.
        let l = left_in gone placed e inside in
        let o = h.owned e l.0 in
        (o.0, place_left o.0 ∙ ap (λ b. cond (not b) (place_of es o.0) None) (other o.0 e o.1 l.1 (same_id id o.0) refl) ∙ o.1);
  }
    where
      other : (q : ObjectId) (e : Extent) → place_of es q ≡ Some e → goes gone e.offset ≡ false → (b : Bool) → same_id id q ≡ b → b ≡ false
      other q e lies stays false s = refl
      other q e lies stays true s = false_true (sym (goes_here e (ap (place_of es) (same_id-equal id q s) ∙ lies)) ∙ stays)

  -- the same where the copy gives its place up, and stays
  pub lost_placed : (fault : Fault) → ArePlaced (without gone placed) (place_of (changed (after_failed_restore fault) es id))
  lost_placed fault = same_places (without gone placed) (place_of (without_entry es id)) (place_of (changed (after_failed_restore fault) es id)) (λ q. now q (at es id) refl ∙ sym (place_left q)) left_placed
    where
      now : (q : ObjectId) (o : Option CopyView) → at es id ≡ o → place_of (changed (after_failed_restore fault) es id) q ≡ cond (not (same_id id q)) (place_of es q) None
      now q None none = ap (λ t. place_of t q) (changed-absent (after_failed_restore fault) id es none) ∙ here (same_id id q) refl
        where
          here : (b : Bool) → same_id id q ≡ b → place_of es q ≡ cond (not b) (place_of es q) None
          here true t = ap (λ o. option_and_then (λ (kept : CopyView). extent_of kept.copy) o) (ap (at es) (sym (same_id-equal id q t)) ∙ none)
          here false t = refl
      now q (Some k) is =
          ap (λ t. place_of t q) (changed-found (after_failed_restore fault) id es k is)
          ∙ ap (λ o. option_and_then (λ (kept : CopyView). extent_of kept.copy) o) (at-put es id (after_failed_restore fault k) q ∙ ap (λ b. cond b (Some (after_failed_restore fault k)) (at es q)) (same_id-flip q id))
          ∙ here (same_id id q)
        where
          here : (b : Bool) → option_and_then (λ (kept : CopyView). extent_of kept.copy) (cond b (Some (after_failed_restore fault k)) (at es q)) ≡ cond (not b) (place_of es q) None
          here true = refl
          here false = refl

-- an option as a slice
pub slice_is : {X : Type 0} (o : Option X) (xs : List X) → MatchOption o (xs ≡ []) (λ x. xs ≡ x ∷ []) → xs ≡ option_to_list o
slice_is None xs h = h
slice_is (Some x) xs h = h

module _ (placed : List (ℕ × List ℕ)) (es : ById CopyView) (h : ArePlaced placed (place_of es)) (id : ObjectId) (fault : FetchFault) where
  pub place_unfetched : (q : ObjectId) → place_of (changed (after_failed_fetch fault) es id) q ≡ cond (not (same_id id q)) (place_of es q) None
  place_unfetched q = by (at es id) refl
    where
      absent : at es id ≡ None → (b : Bool) → same_id id q ≡ b → place_of es q ≡ cond (not b) (place_of es q) None
      absent e true t = ap (place_of es) (sym (same_id-equal id q t)) ∙ ap (λ o. option_and_then (λ (kept : CopyView). extent_of kept.copy) o) e
      absent e false t = refl

      there : (k : CopyView) (b : Bool) → option_and_then (λ (kept : CopyView). extent_of kept.copy) (cond b (Some (after_failed_fetch fault k)) (at es q)) ≡ cond (not b) (place_of es q) None
      there k true = refl
      there k false = refl

      by : (o : Option CopyView) → at es id ≡ o → place_of (changed (after_failed_fetch fault) es id) q ≡ cond (not (same_id id q)) (place_of es q) None
      by None e = ap (λ t. place_of t q) (changed-absent (after_failed_fetch fault) id es e) ∙ absent e (same_id id q) refl
      by (Some k) e =
          ap (λ t. place_of t q) (changed-found (after_failed_fetch fault) id es k e)
          ∙ ap (λ o. option_and_then (λ (kept : CopyView). extent_of kept.copy) o) (at-put es id (after_failed_fetch fault k) q ∙ ap (λ b. cond b (Some (after_failed_fetch fault k)) (at es q)) (same_id-flip q id))
          ∙ there k (same_id id q)

  pub unfetched_placed : ArePlaced (without (option_to_list (place_of es id)) placed) (place_of (changed (after_failed_fetch fault) es id))
  unfetched_placed =
      same_places (without (option_to_list (place_of es id)) placed) (place_of (without_entry es id)) (place_of (changed (after_failed_fetch fault) es id))
      (λ q. place_unfetched q ∙ sym (place_left placed es h id q)) (left_placed placed es h id)

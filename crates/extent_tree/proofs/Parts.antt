-- Spans of parts of a list.
use Rattle.std.proofs.Common.{◌≡◌, ℕ, ◌-◌, List, [], ◌∷◌, ◌++◌, Option, Some, None, refl, sym, ap, ◌∙◌, arith}
use Rattle.std.specs.Prelude.{max, not, map, filter}
use Rattle.std.proofs.lemmas.List.{map-append}
use Rattle.std.proofs.lemmas.List.Elements.{filter-append}
use Rattle.obj_id.specs.declared.works.Extent.{Extent}
use Rattle.use_tree.specs.declared.classes.VictimClass.{VictimClass}
use Rattle.extent_tree.specs.declared.spans.Span.{Span}
use Rattle.extent_tree.specs.declared.spans.Spans.{Spans}
use Rattle.extent_tree.specs.declared.residents.Resident.{Resident}
use Rattle.extent_tree.specs.Residents.{AreSpansOf, goes, extents_staying, joined, span_at, span_of}

joined_thrice : (a b c : Option Span) → joined a (joined b c) ≡ joined (joined a b) c
joined_thrice None b c = refl
joined_thrice (Some a) None c = refl
joined_thrice (Some a) (Some b) None = refl
joined_thrice (Some a) (Some b) (Some c) =
    let e : max (max a.widest (max (max b.widest c.widest) (c.start - b.end))) (b.start - a.end) ≡ max (max (max (max a.widest b.widest) (b.start - a.end)) c.widest) (c.start - b.end) = omega arith in
    ap (λ (w : ℕ). Some (record { start = a.start; end = c.end; widest = w })) e

span_both : (xs ys : List Extent) → span_of (xs ++ ys) ≡ joined (span_of xs) (span_of ys)
span_both [] ys = refl
span_both (x ∷ xs) ys =
    ap (joined (span_of (x ∷ []))) (span_both xs ys) ∙ joined_thrice (span_of (x ∷ [])) (span_of xs) (span_of ys)

staying_both : (k : VictimClass) (xs ys : List Resident) → extents_staying k (xs ++ ys) ≡ extents_staying k xs ++ extents_staying k ys
staying_both k xs ys =
    ap (map (λ (x : Resident). x.extent)) (filter-append (λ (x : Resident). not (goes k x.classes)) xs ys)
    ∙ map-append (λ (x : Resident). x.extent) (filter (λ (x : Resident). not (goes k x.classes)) xs) (filter (λ (x : Resident). not (goes k x.classes)) ys)

-- one part after another
pub stay_both : (k : VictimClass) (xs ys : List Resident) → span_of (extents_staying k (xs ++ ys)) ≡ joined (span_of (extents_staying k xs)) (span_of (extents_staying k ys))
stay_both k xs ys = ap span_of (staying_both k xs ys) ∙ span_both (extents_staying k xs) (extents_staying k ys)

-- the spans of parts that follow each other
pub are_of_both : (s a b : Spans) (xs ys : List Resident) → ((k : VictimClass) → span_at k s ≡ joined (span_at k a) (span_at k b)) → AreSpansOf a xs → AreSpansOf b ys → AreSpansOf s (xs ++ ys)
are_of_both s a b xs ys h of_a of_b k = h k ∙ (λ i. joined (of_a k i) (of_b k i)) ∙ sym (stay_both k xs ys)

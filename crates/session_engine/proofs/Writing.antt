-- Bytes of which a beginning is written.
use Rattle.std.proofs.Common.{◌≡◌, ℕ, ◌-◌, List, [], ◌++◌, length, take, drop, Option, refl, sym, ap, subst, ◌∙◌, append_assoc, append-nil, take-append-drop}
use Rattle.std.proofs.Math.Seq.{take-append_seam}
use Rattle.std.proofs.lemmas.List.{take_rest}
use Rattle.std.specs.Io.KnownBytes.{Appends, Keeps}
use Rattle.store_facts.proofs.KnownBytes.{Appends-none, Appends-then, Appends-kept}
use Rattle.session_engine.specs.Serving.{AppendsPart}

-- what is gone of all bytes was appended
pub record Begun (all : List ℕ) (w : Option (List ℕ)) (rest : List ℕ) (w1 : Option (List ℕ)) : Type 0 where
  pub done : List ℕ
  pub parted : all ≡ done ++ rest
  pub appended : Appends w w1 done

pub begun : (all : List ℕ) (w : Option (List ℕ)) → Begun all w all w
begun all w = record { done = []; parted = refl; appended = Appends-none w }

module _ (all : List ℕ) (w : Option (List ℕ)) (rest : List ℕ) (w1 : Option (List ℕ)) (so_far : Begun all w rest w1) where
  parted_on : (n : ℕ) → all ≡ (so_far.done ++ take n rest) ++ take (length rest - n) (drop n rest)
  parted_on n =
      so_far.parted ∙ ap (λ l. so_far.done ++ l) (sym (take-append-drop n rest)) ∙ sym (append_assoc so_far.done (take n rest) (drop n rest))
      ∙ ap (λ l. (so_far.done ++ take n rest) ++ l) (sym (take_rest rest n))

  pub begun_on : (n : ℕ) (w2 : Option (List ℕ)) → Appends w1 w2 (take n rest) → Begun all w (take (length rest - n) (drop n rest)) w2
  begun_on n w2 h = record { done = so_far.done ++ take n rest; parted = parted_on n; appended = Appends-then w w1 w2 so_far.done (take n rest) so_far.appended h }

  pub begun_kept : (w2 : Option (List ℕ)) → Keeps w1 w2 → Begun all w rest w2
  begun_kept w2 k = record { done = so_far.done; parted = so_far.parted; appended = Appends-kept w w1 w2 so_far.done so_far.appended k }

  pub written_whole : rest ≡ [] → Appends w w1 all
  written_whole none = subst (Appends w w1) (sym (so_far.parted ∙ ap (λ l. so_far.done ++ l) none ∙ append-nil so_far.done)) so_far.appended

  pub written_in_part : AppendsPart w w1 [] all
  written_in_part =
      (length so_far.done, subst (Appends w w1) (sym (ap (take (length so_far.done)) so_far.parted ∙ take-append_seam so_far.done rest)) so_far.appended)

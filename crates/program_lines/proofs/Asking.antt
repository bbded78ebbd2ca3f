-- What asks for a job's usage, and for counts.
use Rattle.std.proofs.Common.{◌≡◌, ℕ, List, [], ◌∷◌, Option, Some, None, codes, sym, ◌∙◌}
use Rattle.std.specs.Prelude.{IfSome}
use Rattle.schedule_text.specs.Fields.{Reads}
use Rattle.program_lines.specs.declared.control_lines.Look.{Look}
use Rattle.program_lines.specs.declared.control_lines.Look.TheVariants as look
use Rattle.program_lines.specs.declared.control_lines.LookAt.{LookAt}
use Rattle.program_lines.specs.ControlLines.{IsCountsLook, IsJobLook, IsLookAfter}

module _ (nodes : ℕ) (word : List ℕ) (is : word ≡ codes "usage") where
  sound : (fields : List (List ℕ)) (n : ℕ) (l : Look) → IsJobLook nodes fields (record { node = n; look = l }) → IsLookAfter nodes word fields (record { node = n; look = l })
  sound fields n (look.Usage j) h = (is, h)
  sound [] n look.Jobs h = absurd h
  sound (a ∷ []) n look.Jobs h = absurd h
  sound (a ∷ b ∷ []) n look.Jobs h = absurd h
  sound (a ∷ b ∷ c ∷ fields) n look.Jobs h = absurd h
  sound [] n look.Sessions h = absurd h
  sound (a ∷ []) n look.Sessions h = absurd h
  sound (a ∷ b ∷ []) n look.Sessions h = absurd h
  sound (a ∷ b ∷ c ∷ fields) n look.Sessions h = absurd h
  sound [] n look.Streams h = absurd h
  sound (a ∷ []) n look.Streams h = absurd h
  sound (a ∷ b ∷ []) n look.Streams h = absurd h
  sound (a ∷ b ∷ c ∷ fields) n look.Streams h = absurd h
  sound [] n (look.Counts j) h = absurd h
  sound (a ∷ []) n (look.Counts j) h = absurd h
  sound (a ∷ b ∷ []) n (look.Counts j) h = absurd h
  sound (a ∷ b ∷ c ∷ fields) n (look.Counts j) h = absurd h

  whole : (fields : List (List ℕ)) (found : Option LookAt) → ((x : LookAt) → IsJobLook nodes fields x → found ≡ Some x) → (n : ℕ) (l : Look) → IsLookAfter nodes word fields (record { node = n; look = l }) → found ≡ Some (record { node = n; look = l })
  whole fields found h n (look.Usage j) of = h (record { node = n; look = look.Usage j }) of.1
  whole fields found h n look.Jobs of = let e : codes "usage" ≡ codes "jobs" = sym is ∙ of.0 in absurd (cc)
  whole fields found h n look.Sessions of = let e : codes "usage" ≡ codes "sessions" = sym is ∙ of.0 in absurd (cc)
  whole fields found h n look.Streams of = let e : codes "usage" ≡ codes "streams" = sym is ∙ of.0 in absurd (cc)
  whole fields found h n (look.Counts j) of = let e : codes "usage" ≡ codes "counts" = sym is ∙ of.0 in absurd (cc)

  found_is : (fields : List (List ℕ)) (found : Option LookAt) → IfSome found (IsJobLook nodes fields) → IfSome found (IsLookAfter nodes word fields)
  found_is fields (Some x) h = sound fields x.node x.look h
  found_is fields None h = tt

  pub usage_reads : (fields : List (List ℕ)) (found : Option LookAt) → Reads found (IsJobLook nodes fields) → Reads found (IsLookAfter nodes word fields)
  usage_reads fields found reads = record { sound = found_is fields found reads.sound; whole = λ x. whole fields found reads.whole x.node x.look }

module _ (nodes : ℕ) (word : List ℕ) (is : word ≡ codes "counts") where
  counted : (fields : List (List ℕ)) (n : ℕ) (l : Look) → IsCountsLook nodes fields (record { node = n; look = l }) → IsLookAfter nodes word fields (record { node = n; look = l })
  counted fields n (look.Counts j) h = (is, h)
  counted [] n look.Jobs h = absurd h
  counted (a ∷ []) n look.Jobs h = absurd h
  counted (a ∷ b ∷ []) n look.Jobs h = absurd h
  counted (a ∷ b ∷ c ∷ fields) n look.Jobs h = absurd h
  counted [] n look.Sessions h = absurd h
  counted (a ∷ []) n look.Sessions h = absurd h
  counted (a ∷ b ∷ []) n look.Sessions h = absurd h
  counted (a ∷ b ∷ c ∷ fields) n look.Sessions h = absurd h
  counted [] n look.Streams h = absurd h
  counted (a ∷ []) n look.Streams h = absurd h
  counted (a ∷ b ∷ []) n look.Streams h = absurd h
  counted (a ∷ b ∷ c ∷ fields) n look.Streams h = absurd h
  counted [] n (look.Usage j) h = absurd h
  counted (a ∷ []) n (look.Usage j) h = absurd h
  counted (a ∷ b ∷ []) n (look.Usage j) h = absurd h
  counted (a ∷ b ∷ c ∷ fields) n (look.Usage j) h = absurd h

  all_counted : (fields : List (List ℕ)) (found : Option LookAt) → ((x : LookAt) → IsCountsLook nodes fields x → found ≡ Some x) → (n : ℕ) (l : Look) → IsLookAfter nodes word fields (record { node = n; look = l }) → found ≡ Some (record { node = n; look = l })
  all_counted fields found h n (look.Counts j) of = h (record { node = n; look = look.Counts j }) of.1
  all_counted fields found h n look.Jobs of = let e : codes "counts" ≡ codes "jobs" = sym is ∙ of.0 in absurd (cc)
  all_counted fields found h n look.Sessions of = let e : codes "counts" ≡ codes "sessions" = sym is ∙ of.0 in absurd (cc)
  all_counted fields found h n look.Streams of = let e : codes "counts" ≡ codes "streams" = sym is ∙ of.0 in absurd (cc)
  all_counted fields found h n (look.Usage j) of = let e : codes "counts" ≡ codes "usage" = sym is ∙ of.0 in absurd (cc)

  counts_found : (fields : List (List ℕ)) (found : Option LookAt) → IfSome found (IsCountsLook nodes fields) → IfSome found (IsLookAfter nodes word fields)
  counts_found fields (Some x) h = counted fields x.node x.look h
  counts_found fields None h = tt

  pub counts_read : (fields : List (List ℕ)) (found : Option LookAt) → Reads found (IsCountsLook nodes fields) → Reads found (IsLookAfter nodes word fields)
  counts_read fields found reads = record { sound = counts_found fields found reads.sound; whole = λ x. all_counted fields found reads.whole x.node x.look }

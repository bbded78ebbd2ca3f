-- Each beginning of a trace is answered privately, if the trace is.
use Rattle.std.proofs.Common.{ℕ, List, [], ◌∷◌, ◌++◌, reverse, sym, subst, ◌∙◌}
use Rattle.std.specs.List.{list_all}
use Rattle.std.proofs.lemmas.List.{reverse-append}
use Rattle.std.proofs.lemmas.List.Folds.{list_all-append}
use Rattle.private_store.specs.declared.schedules.Traced.{Traced}
use Rattle.store_facts.proofs.Runs.{EachPrivate, IsPrivate-each}
use Rattle.store_facts.proofs.Tests.{both_left}
use Rattle.run_laws.specs.Standing.{is_response_to, ArePrivate}
use Rattle.run_laws.proofs.Histories.{trace_private}

older : (nodes j : ℕ) (later before : List Traced) → EachPrivate nodes j (later ++ before) → EachPrivate nodes j before
older nodes j [] before h = h
older nodes j (entry ∷ later) before h = older nodes j later before h.0

pub beginning_private : (nodes : ℕ) (first rest : List Traced) → ArePrivate nodes (first ++ rest) → ArePrivate nodes first
beginning_private nodes first rest h = record {
  response = both_left (list_all (λ e. is_response_to e.step e.answer) first) (list_all (λ e. is_response_to e.step e.answer) rest) (sym (list_all-append (λ e. is_response_to e.step e.answer) first rest) ∙ h.response);
  replies = λ j. IsPrivate-each nodes j first (older nodes j (reverse rest) (reverse first) (subst (EachPrivate nodes j) (reverse-append first rest) (trace_private nodes (first ++ rest) h j)));
}

-- Each step keeps the rule of the link.
use Rattle.std.proofs.Common.{◌≡◌, ◌≢◌, ◌≤◌, ℕ, zero, suc, true, false, true≢false, List, [], ◌∷◌, ◌++◌, length, set, sym, refl, ap, ◌∙◌, subst, ⊎_elim, append_assoc, length-append, arith}
use mathlib.Core.Option.{some, some-ne-none}
use lib.ListN.{get_elem?}
use Rattle.crossbeam_channel.specs.Fifo.{Pushes, Pops, Forks, Merges, Learns}
use Rattle.atomic_table.proofs.Lists.{at_set, at_snoc}
use Rattle.fetch_link.specs.declared.rule.Known.{Known}
use Rattle.fetch_link.specs.declared.rule.TheConstants.{MOST_IN_FLIGHT}
use Rattle.fetch_link.specs.Rule.{known, Fits, IsInOrder, EndsWith}

module _ {M : Type 0} where
  -- of each pass
  abbrev Each : (ℕ → Known M → Type 0) → List (Known M) → Type 0
  Each F views = (pass : ℕ) (k : Known M) → get_elem? views pass ≡ some k → F pass k

  Each-set : (F : ℕ → Known M → Type 0) (views : List (Known M)) (pass : ℕ) (new : Known M) → F pass new
      → ((j : ℕ) (k : Known M) → j ≢ pass → get_elem? views j ≡ some k → F j k) → Each F (set views pass new)
  Each-set F views pass new own others j k there =
      ⊎_elim (λ (here : (j ≡ pass) × (new ≡ k)). subst (λ (at : ℕ × Known M). F at.0 at.1) (λ i. (sym here.0 i, here.1 i)) own)
      (λ (else : (j ≢ pass) × (get_elem? views j ≡ some k)). others j k else.0 else.1)
      (at_set views pass j new k there)

  -- what is found in the longer list alone is at its end
  at_end : (views : List (Known M)) (new k : Known M) (j : ℕ) → get_elem? views j ≢ some k → get_elem? (views ++ new ∷ []) j ≡ some k → j ≡ length views
  at_end [] new k zero _ _ = refl
  at_end [] new k (suc j) _ there = absurd (some-ne-none k (sym there))
  at_end (x ∷ xs) new k zero missing there = absurd (missing there)
  at_end (x ∷ xs) new k (suc j) missing there = ap suc (at_end xs new k j missing there)

  -- a pass that does neither fits whatever was done
  idle : (sender : ℕ) (accepted : List M) (receiver : ℕ) (received : List M) (pass : ℕ) → Fits sender accepted receiver received pass (known false false [] [])
  idle sender accepted receiver received pass = ((λ p. absurd (true≢false (sym p))), λ p. absurd (true≢false (sym p)))

  pub IsInOrder-new : IsInOrder {M = M} [] (known true true [] [] ∷ [])
  IsInOrder-new = record {
    sender = 0;
    accepted = [];
    receiver = 0;
    received = [];
    total = refl;
    few = omega arith;
    fits = Each-set (Fits 0 [] 0 []) (known true true [] [] ∷ []) 0 (known true true [] []) ((λ _. (refl, refl)), λ _. (refl, refl))
        (λ j k other there. absurd (other (at_end [] _ k j (λ e. some-ne-none k (sym e)) there)));
  }

  pub Pushes-accepted : (most pass : ℕ) (k : Known M) (message : M) → most ≡ MOST_IN_FLIGHT → k.sends ≡ true
      → Pushes IsInOrder most pass k message (λ after. after ≡ known k.sends k.receives (k.accepted ++ message ∷ []) k.received)
  Pushes-accepted most pass k message is_most sends items views room h at =
      let after : Known M = known k.sends k.receives (k.accepted ++ message ∷ []) k.received in
      let own = h.fits pass k at in
      let accepted = h.accepted ++ message ∷ [] in (
        after,
        record {
          sender = h.sender;
          accepted = accepted;
          receiver = h.receiver;
          received = h.received;
          total = ap (λ l. l ++ message ∷ []) h.total ∙ append_assoc h.received items (message ∷ []);
          few = let long = length-append items (message ∷ []) in omega arith;
          fits = Each-set (Fits h.sender accepted h.receiver h.received) views pass after
              ((λ _. ((own.0 sends).0, ap (λ l. l ++ message ∷ []) (own.0 sends).1)), own.1)
              (λ j other apart there. ((λ p. absurd (apart (((h.fits j other there).0 p).0 ∙ sym (own.0 sends).0))), (h.fits j other there).1));
        },
        refl,
      )

  pub Pops-received : (pass : ℕ) (k : Known M) → k.receives ≡ true
      → Pops IsInOrder pass k (λ message after. after ≡ known k.sends k.receives k.accepted (k.received ++ message ∷ []))
  Pops-received pass k receives message items views h at =
      let after : Known M = known k.sends k.receives k.accepted (k.received ++ message ∷ []) in
      let own = h.fits pass k at in
      let received = h.received ++ message ∷ [] in (
        after,
        record {
          sender = h.sender;
          accepted = h.accepted;
          receiver = h.receiver;
          received = received;
          total = h.total ∙ sym (append_assoc h.received (message ∷ []) items);
          few = let few = h.few in omega arith;
          fits = Each-set (Fits h.sender h.accepted h.receiver received) views pass after
              (own.0, λ _. ((own.1 receives).0, ap (λ l. l ++ message ∷ []) (own.1 receives).1))
              (λ j other apart there. ((h.fits j other there).0, λ p. absurd (apart (((h.fits j other there).1 p).0 ∙ sym (own.1 receives).0))));
        },
        refl,
      )

  pub Forks-roles : (pass : ℕ) (k : Known M) → k.sends ≡ true → k.receives ≡ true
      → Forks IsInOrder pass k (known true false k.accepted []) (known false true [] k.received)
  Forks-roles pass k sends receives items views h at =
      let left : Known M = known true false k.accepted [] in
      let right : Known M = known false true [] k.received in
      let own = h.fits pass k at in
      let cut : List (Known M) = set views pass left in
      let Sole : ℕ → Known M → Type 0 = λ j other. (other.sends ≡ true → (j ≡ h.sender) × (other.accepted ≡ h.accepted)) × (other.receives ≢ true) in
      let sole : Each Sole cut = Each-set Sole views pass left ((λ _. own.0 sends), λ p. true≢false (sym p))
      (λ j other apart there. ((h.fits j other there).0, λ p. apart (((h.fits j other there).1 p).0 ∙ sym (own.1 receives).0))) in
      record {
        sender = h.sender;
        accepted = h.accepted;
        receiver = length cut;
        received = h.received;
        total = h.total;
        few = h.few;
        fits = λ j other there. ⊎_elim (λ before. ((sole j other before).0, λ p. absurd ((sole j other before).1 p)))
            (λ (new : right ≡ other). (
              (λ p. absurd (true≢false (sym (ap (λ (y : Known M). y.sends) new ∙ p)))),
              λ p. (at_end cut right other j (λ before. (sole j other before).1 p) there, ap (λ (y : Known M). y.received) (sym new) ∙ (own.1 receives).1),
            ))
            (at_snoc cut right other j there);
      }

  pub Merges-roles : (pass : ℕ) (k : Known M) (other : ℕ) (theirs : Known M) → k.sends ≡ true → theirs.receives ≡ true
      → Merges IsInOrder pass k other theirs (known true true k.accepted theirs.received) (known false false [] [])
  Merges-roles pass k other theirs sends receives items views h at two at_other =
      let both : Known M = known true true k.accepted theirs.received in
      let own = h.fits pass k at in
      let joined : List (Known M) = set views pass both in
      let was : get_elem? views other ≡ some theirs = ⊎_elim (λ same. absurd (two same.0)) (λ else. else.1) (at_set views pass other both theirs at_other) in
      let given = (h.fits other theirs was).1 receives in
      let Now : ℕ → Known M → Type 0 = λ j y. j ≢ other → Fits h.sender h.accepted pass h.received j y in
      let now : Each Now joined = Each-set Now views pass both (λ _. ((λ _. own.0 sends), λ _. (refl, given.1)))
      (λ j y _ there apart. ((h.fits j y there).0, λ p. absurd (apart (((h.fits j y there).1 p).0 ∙ sym given.0)))) in
      record {
        sender = h.sender;
        accepted = h.accepted;
        receiver = pass;
        received = h.received;
        total = h.total;
        few = h.few;
        fits = Each-set (Fits h.sender h.accepted pass h.received) joined other (known false false [] []) (idle h.sender h.accepted pass h.received other) (λ j y apart there. now j y there apart);
      }

  -- the link holds the last messages that were accepted
  pub Learns-last : (pass : ℕ) (k : Known M) → k.sends ≡ true → Learns IsInOrder pass k (EndsWith k.accepted)
  Learns-last pass k sends items views h at = (h.received, ((h.fits pass k at).0 sends).1 ∙ h.total)

  -- and who receives too knows which those are
  pub Learns-whole : (pass : ℕ) (k : Known M) → k.sends ≡ true → k.receives ≡ true
      → Learns IsInOrder pass k (λ items. (k.accepted ≡ k.received ++ items) × (length items ≤ MOST_IN_FLIGHT))
  Learns-whole pass k sends receives items views h at =
      let own = h.fits pass k at in
      ((own.0 sends).1 ∙ h.total ∙ ap (λ l. l ++ items) (sym (own.1 receives).1), h.few)

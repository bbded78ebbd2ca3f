-- Runs one after another, and what is written of them.
use Rattle.std.proofs.Common.{◌≡◌, ℕ, List, [], ◌∷◌, ◌++◌, length, take, Option, Some, None, Result, Ok, Err, refl, sym, ap, subst, ◌∙◌, append_assoc, append-nil}
use Rattle.std.specs.Prelude.{⊤, IsErrAnd, option_to_list}
use Rattle.std.specs.Io.KnownBytes.{Appends, Keeps}
use Rattle.std.proofs.Math.Seq.{take-length, take-nil}
use Rattle.std.proofs.lemmas.Grind.{flat_map-append}
use Rattle.obj_id.specs.declared.commands.Reply.{Reply}
use Rattle.private_store.specs.declared.frames.Item.{Item}
use Rattle.private_store.specs.rules.Frames.{End, clean, malformed, reply_frame, replies_bytes}
use Rattle.session_engine.specs.declared.session.SessionId.{SessionId}
use Rattle.session_engine.specs.declared.ending.SessionFault.{SessionFault}
use Rattle.session_engine.specs.declared.ending.SessionFault.TheVariants.{Read, Write, Memory}
use Rattle.session_engine.specs.Calls.{GateCall, GateAnswer}
use Rattle.session_engine.specs.Sessions.{SessionState, session_state, AnswersItem, Run}
use Rattle.session_engine.specs.Serving.{AppendsPart, IsSent, due_frame, not_a_frame, AnswersAll, StopsWithin}
use Rattle.session_engine.specs.Hearing.{Sends, Flushes, StopsAnswering, Answering}
use Rattle.store_facts.proofs.KnownBytes.{Appends-none, Appends-then, Appends-kept}

-- ---- what is sent

replies_bytes-append : (p q : List (Reply (List ℕ))) → replies_bytes (p ++ q) ≡ replies_bytes p ++ replies_bytes q
replies_bytes-append p q = flat_map-append reply_frame p q

pub Appends-replies : (a b c : Option (List ℕ)) (p q : List (Reply (List ℕ))) → Appends a b (replies_bytes p) → Appends b c (replies_bytes q) → Appends a c (replies_bytes (p ++ q))
Appends-replies a b c p q h k = subst (Appends a c) (sym (replies_bytes-append p q)) (Appends-then a b c (replies_bytes p) (replies_bytes q) h k)

pub Appends-reply : (a b : Option (List ℕ)) (r : Reply (List ℕ)) → Appends a b (reply_frame r) → Appends a b (replies_bytes (r ∷ []))
Appends-reply a b r h = subst (Appends a b) (sym (append-nil (reply_frame r))) h

replies_then : (p q : List (Reply (List ℕ))) (bs : List ℕ) → replies_bytes p ++ (replies_bytes q ++ bs) ≡ replies_bytes (p ++ q) ++ bs
replies_then p q bs = sym (ap (λ l. l ++ bs) (replies_bytes-append p q) ∙ append_assoc (replies_bytes p) (replies_bytes q) bs)

IsSent-then : (fault : SessionFault) (a b c : Option (List ℕ)) (p q : List (Reply (List ℕ))) (due : List ℕ) → Appends a b (replies_bytes p) → IsSent fault b c q due → IsSent fault a c (p ++ q) due
IsSent-then Read a b c p q due h k = Appends-replies a b c p q h k
IsSent-then Write a b c p q due h k = (k.0, subst (Appends a c) (replies_then p q (take k.0 due)) (Appends-then a b c (replies_bytes p) (replies_bytes q ++ take k.0 due) h k.1))
IsSent-then Memory a b c p q due h k = Appends-replies a b c p q h k

Appends-after : (a b c : Option (List ℕ)) (bs : List ℕ) → Keeps a b → Appends b c bs → Appends a c bs
Appends-after a b c bs k h = Appends-then a b c [] bs (Appends-kept a a b [] (Appends-none a) k) h

-- whole frames, and nothing of one that may be due
AppendsPart-whole : (a b : Option (List ℕ)) (whole due : List ℕ) → Appends a b whole → AppendsPart a b whole due
AppendsPart-whole a b whole due h = (0, subst (Appends a b) (sym (append-nil whole)) h)

-- nothing is due once nothing waits, where the stream has no fault
nothing_due : (waiting : List Item) (n : ℕ) → take n (due_frame None waiting clean) ≡ []
nothing_due [] n = take-nil n
nothing_due (x ∷ xs) n = take-nil n

IsSent-more : (fault : SessionFault) (a b : Option (List ℕ)) (sent : List (Reply (List ℕ))) (unsent : Option (Reply (List ℕ))) (waiting more : List Item) (end : End)
    → IsSent fault a b sent (due_frame unsent waiting clean) → IsSent fault a b sent (due_frame unsent more end)
IsSent-more Read a b sent unsent waiting more end h = h
IsSent-more Write a b sent None waiting more end h = AppendsPart-whole a b (replies_bytes sent) (due_frame None more end) (subst (Appends a b) (ap (λ l. replies_bytes sent ++ l) (nothing_due waiting h.0) ∙ append-nil (replies_bytes sent)) h.1)
IsSent-more Write a b sent (Some r) waiting more end h = h
IsSent-more Memory a b sent unsent waiting more end h = h

-- ---- a fault that is passed on

pub passed_on : {T : Type 0} (result : Result T SessionFault) (fault : SessionFault) → IsErrAnd result (λ e. e ≡ fault) → result ≡ Err fault
passed_on (Ok x) fault h = absurd h
passed_on (Err e) fault h = ap Err h

module _ {G : Type 0} (gives : G → GateCall → GateAnswer → G → Type 0) where
  -- ---- runs

  pub Run-then : (xs : List Item) (p : List (Reply (List ℕ))) (ys : List Item) (q : List (Reply (List ℕ))) (g g1 g2 : G) (s s1 s2 : Option SessionId)
      → Run gives xs p g s g1 s1 → Run gives ys q g1 s1 g2 s2 → Run gives (xs ++ ys) (p ++ q) g s g2 s2
  Run-then [] [] ys q g g1 g2 s s1 s2 h k = subst (λ at. Run gives ys q g at g2 s2) h.1 (subst (λ gate. Run gives ys q gate s1 g2 s2) h.0 k)
  Run-then [] (r ∷ p) ys q g g1 g2 s s1 s2 h k = absurd h
  Run-then (x ∷ xs) [] ys q g g1 g2 s s1 s2 h k = absurd h
  Run-then (x ∷ xs) (r ∷ p) ys q g g1 g2 s s1 s2 h k =
      record { gate = h.gate; session_id_then = h.session_id_then; first = h.first; others = Run-then xs p ys q h.gate g1 g2 h.session_id_then s1 s2 h.others k }

  Run-one : (x : Item) (r : Reply (List ℕ)) (g g1 : G) (s s1 : Option SessionId) → AnswersItem gives g s x r g1 s1 → Run gives (x ∷ []) (r ∷ []) g s g1 s1
  Run-one x r g g1 s s1 h = record { gate = g1; session_id_then = s1; first = h; others = (refl, refl) }

  -- ---- answers that are written

  pub answered_none : (a : SessionState G) → AnswersAll gives [] a a
  answered_none a = record { replies = []; run = (refl, refl); written = Appends-none a.written }

  pub answered_then : (xs ys : List Item) (a b c : SessionState G) → AnswersAll gives xs a b → AnswersAll gives ys b c → AnswersAll gives (xs ++ ys) a c
  answered_then xs ys a b c h k =
      record {
        replies = h.replies ++ k.replies;
        run = Run-then xs h.replies ys k.replies a.gate b.gate c.gate a.session_id b.session_id c.session_id h.run k.run;
        written = Appends-replies a.written b.written c.written h.replies k.replies h.written k.written;
      }

  -- ---- faults among answers

  -- the answer to an item isn't written
  unsent_one : (fault : SessionFault) (x : Item) (r : Reply (List ℕ)) (a b : SessionState G)
      → AnswersItem gives a.gate a.session_id x r b.gate b.session_id → IsSent fault a.written b.written [] (reply_frame r) → StopsWithin gives fault clean (x ∷ []) a b
  unsent_one fault x r a b h k =
      record { answered = x ∷ []; waiting = []; parted = refl; sent = []; unsent = Some r; run = Run-one x r a.gate b.gate a.session_id b.session_id h; written = k }

  -- one item, by what became of its answer
  pub answering_one : (x : Item) (r : Reply (List ℕ)) (a b : SessionState G) (result : Result ⊤ SessionFault)
      → AnswersItem gives a.gate a.session_id x r b.gate b.session_id → Sends r a.written b.written result → Answering gives (x ∷ []) a b result
  answering_one x r a b (Ok u) h k = record { replies = r ∷ []; run = Run-one x r a.gate b.gate a.session_id b.session_id h; written = Appends-reply a.written b.written r k }
  answering_one x r a b (Err Read) h k = k
  answering_one x r a b (Err Write) h k = unsent_one Write x r a b h k
  answering_one x r a b (Err Memory) h k = unsent_one Memory x r a b h (Appends-kept a.written a.written b.written [] (Appends-none a.written) k)

  within_then : (fault : SessionFault) (end : End) (xs ys : List Item) (a b c : SessionState G) → AnswersAll gives xs a b → StopsWithin gives fault end ys b c → StopsWithin gives fault end (xs ++ ys) a c
  within_then fault end xs ys a b c h k =
      record {
        answered = xs ++ k.answered;
        waiting = k.waiting;
        parted = ap (λ l. xs ++ l) k.parted ∙ sym (append_assoc xs k.answered k.waiting);
        sent = h.replies ++ k.sent;
        unsent = k.unsent;
        run =
            subst (λ l. Run gives (xs ++ k.answered) l a.gate a.session_id c.gate c.session_id) (sym (append_assoc h.replies k.sent (option_to_list k.unsent)))
            (Run-then xs h.replies k.answered (k.sent ++ option_to_list k.unsent) a.gate b.gate c.gate a.session_id b.session_id c.session_id h.run k.run);
        written = IsSent-then fault a.written b.written c.written h.replies k.sent (due_frame k.unsent k.waiting end) h.written k.written;
      }

  pub stopped_then : (fault : SessionFault) (end : End) (xs ys : List Item) (a b c : SessionState G)
      → AnswersAll gives xs a b → StopsAnswering gives fault end ys b c → StopsAnswering gives fault end (xs ++ ys) a c
  stopped_then Read end xs ys a b c h k = k
  stopped_then Write end xs ys a b c h k = within_then Write end xs ys a b c h k
  stopped_then Memory end xs ys a b c h k = within_then Memory end xs ys a b c h k

  within_more : (fault : SessionFault) (end : End) (xs ys : List Item) (a b : SessionState G) → StopsWithin gives fault clean xs a b → StopsWithin gives fault end (xs ++ ys) a b
  within_more fault end xs ys a b h =
      record {
        answered = h.answered;
        waiting = h.waiting ++ ys;
        parted = ap (λ l. l ++ ys) h.parted ∙ append_assoc h.answered h.waiting ys;
        sent = h.sent;
        unsent = h.unsent;
        run = h.run;
        written = IsSent-more fault a.written b.written h.sent h.unsent h.waiting (h.waiting ++ ys) end h.written;
      }

  -- others wait too, and a fault of the stream may stand after them
  pub stopped_more : (fault : SessionFault) (end : End) (xs ys : List Item) (a b : SessionState G) → StopsAnswering gives fault clean xs a b → StopsAnswering gives fault end (xs ++ ys) a b
  stopped_more Read end xs ys a b h = h
  stopped_more Write end xs ys a b h = within_more Write end xs ys a b h
  stopped_more Memory end xs ys a b h = within_more Memory end xs ys a b h

  pub stopped_before : (fault : SessionFault) (end : End) (xs : List Item) (a b : SessionState G) → StopsAnswering gives fault clean xs a b → StopsAnswering gives fault end xs a b
  stopped_before fault end xs a b h = subst (λ l. StopsAnswering gives fault end l a b) (append-nil xs) (stopped_more fault end xs [] a b h)

  before_all : (fault : SessionFault) (end : End) (xs : List Item) (a : SessionState G) (w : Option (List ℕ)) → IsSent fault a.written w [] (due_frame None xs end) → StopsWithin gives fault end xs a (session_state a.gate a.session_id w)
  before_all fault end xs a w h = record { answered = []; waiting = xs; parted = refl; sent = []; unsent = None; run = (refl, refl); written = h }

  pub no_memory_before : (end : End) (xs : List Item) (a : SessionState G) → StopsWithin gives Memory end xs a a
  no_memory_before end xs a = before_all Memory end xs a a.written (Appends-none a.written)

  -- all items are answered, and all answers are sent
  after_all : (fault : SessionFault) (end : End) (xs : List Item) (a b : SessionState G) (w : Option (List ℕ)) (h : AnswersAll gives xs a b)
      → IsSent fault a.written w h.replies (due_frame None [] end) → StopsWithin gives fault end xs a (session_state b.gate b.session_id w)
  after_all fault end xs a b w h k =
      record {
        answered = xs;
        waiting = [];
        parted = sym (append-nil xs);
        sent = h.replies;
        unsent = None;
        run = subst (λ l. Run gives xs l a.gate a.session_id b.gate b.session_id) (sym (append-nil h.replies)) h.run;
        written = k;
      }

  -- all items are answered, and the answers may be kept back
  pub stopped_after : (fault : SessionFault) (end : End) (xs : List Item) (a b : SessionState G) (w : Option (List ℕ))
      → AnswersAll gives xs a b → Flushes b.written w (Err fault) → StopsAnswering gives fault end xs a (session_state b.gate b.session_id w)
  stopped_after Read end xs a b w h k = k
  stopped_after Write end xs a b w h k =
      after_all Write end xs a b w h
      (AppendsPart-whole a.written w (replies_bytes h.replies) (due_frame None [] end) (Appends-kept a.written b.written w (replies_bytes h.replies) h.written k))
  stopped_after Memory end xs a b w h k = absurd k

  -- all items are answered, and the refusal of what isn't a frame may not be written
  pub stopped_refusing : (fault : SessionFault) (xs : List Item) (a b : SessionState G) (w : Option (List ℕ))
      → AnswersAll gives xs a b → Sends not_a_frame b.written w (Err fault) → StopsAnswering gives fault malformed xs a (session_state b.gate b.session_id w)
  stopped_refusing Read xs a b w h k = k
  stopped_refusing Write xs a b w h k =
      after_all Write malformed xs a b w h (k.0, Appends-then a.written b.written w (replies_bytes h.replies) (take k.0 (reply_frame not_a_frame)) h.written k.1)
  stopped_refusing Memory xs a b w h k =
      after_all Memory malformed xs a b w h (Appends-kept a.written b.written w (replies_bytes h.replies) h.written k)

  -- that refusal is written too, and may be kept back
  pub stopped_after_refusing : (fault : SessionFault) (xs : List Item) (a b : SessionState G) (w w1 : Option (List ℕ))
      → AnswersAll gives xs a b → Sends not_a_frame b.written w (Ok tt) → Flushes w w1 (Err fault) → StopsAnswering gives fault malformed xs a (session_state b.gate b.session_id w1)
  stopped_after_refusing Read xs a b w w1 h sent k = k
  stopped_after_refusing Write xs a b w w1 h sent k =
      let frame = reply_frame not_a_frame in
      after_all Write malformed xs a b w1 h (
        length frame,
        subst (λ l. Appends a.written w1 (replies_bytes h.replies ++ l)) (sym (take-length frame))
            (Appends-kept a.written w w1 (replies_bytes h.replies ++ frame) (Appends-then a.written b.written w (replies_bytes h.replies) frame h.written sent) k),
      )
  stopped_after_refusing Memory xs a b w w1 h sent k = absurd k

  pub answered_kept : (xs : List Item) (a b : SessionState G) (w : Option (List ℕ)) → AnswersAll gives xs a b → Keeps b.written w → AnswersAll gives xs a (session_state b.gate b.session_id w)
  answered_kept xs a b w h k = record { replies = h.replies; run = h.run; written = Appends-kept a.written b.written w (replies_bytes h.replies) h.written k }

  -- ---- answers before which the writer handed over what it kept back

  pub answering_after : (xs : List Item) (g : G) (s : Option SessionId) (w w1 : Option (List ℕ)) (b : SessionState G) (result : Result ⊤ SessionFault)
      → Keeps w w1 → Answering gives xs (session_state g s w1) b result → Answering gives xs (session_state g s w) b result
  answering_after xs g s w w1 b (Ok u) k h = record { replies = h.replies; run = h.run; written = Appends-after w w1 b.written (replies_bytes h.replies) k h.written }
  answering_after xs g s w w1 b (Err Read) k h = h
  answering_after xs g s w w1 b (Err Write) k h =
      record {
        answered = h.answered;
        waiting = h.waiting;
        parted = h.parted;
        sent = h.sent;
        unsent = h.unsent;
        run = h.run;
        written = (h.written.0, Appends-after w w1 b.written _ k h.written.1);
      }
  answering_after xs g s w w1 b (Err Memory) k h =
      record {
        answered = h.answered;
        waiting = h.waiting;
        parted = h.parted;
        sent = h.sent;
        unsent = h.unsent;
        run = h.run;
        written = Appends-after w w1 b.written (replies_bytes h.sent) k h.written;
      }

  pub stopped_at_flush : (fault : SessionFault) (xs : List Item) (a : SessionState G) (w : Option (List ℕ)) → Flushes a.written w (Err fault) → StopsAnswering gives fault clean xs a (session_state a.gate a.session_id w)
  stopped_at_flush Read xs a w h = h
  stopped_at_flush Write xs a w h = before_all Write clean xs a w (AppendsPart-whole a.written w [] (due_frame None xs clean) (Appends-kept a.written a.written w [] (Appends-none a.written) h))
  stopped_at_flush Memory xs a w h = absurd h

  -- ---- the items so far

  pub record SoFar (items left : List Item) (a b : SessionState G) : Type 0 where
    pub done : List Item
    pub parted : items ≡ done ++ left
    pub answered : AnswersAll gives done a b

  pub so_far_none : (items left : List Item) (a : SessionState G) → left ≡ items → SoFar items left a a
  so_far_none items left a is = record { done = []; parted = sym is; answered = answered_none a }

  module _ (items left : List Item) (a b c : SessionState G) (so_far : SoFar items left a b) (x : Item) (rest : List Item) (is : left ≡ x ∷ rest) where
    parted_on : items ≡ (so_far.done ++ x ∷ []) ++ rest
    parted_on = so_far.parted ∙ ap (λ l. so_far.done ++ l) is ∙ sym (append_assoc so_far.done (x ∷ []) rest)

    pub so_far_more : AnswersAll gives (x ∷ []) b c → SoFar items rest a c
    so_far_more answers = record { done = so_far.done ++ x ∷ []; parted = parted_on; answered = answered_then so_far.done (x ∷ []) a b c so_far.answered answers }

    pub so_far_stopped : (fault : SessionFault) → StopsAnswering gives fault clean (x ∷ []) b c → StopsAnswering gives fault clean items a c
    so_far_stopped fault stops =
        subst (λ l. StopsAnswering gives fault clean l a c) (sym parted_on)
        (stopped_more fault clean (so_far.done ++ x ∷ []) rest a c (stopped_then fault clean so_far.done (x ∷ []) a b c so_far.answered stops))

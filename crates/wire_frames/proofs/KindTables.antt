-- The table of kinds of commands: each stands at the place that is 2 below its byte, and its body is read as the frames' table says.
use Rattle.std.proofs.Common.{◌≡◌, ℕ, ◌+◌, ◌<◌, Bool, true, false, ◌&&◌, nat_eq, nat_lt, List, [], ◌∷◌, length, Some, None, IfSome, zero, suc, refl, ◌∙◌, arith}
use Rattle.std.proofs.lemmas.Bool.{and_parts, eqb-true, ltb-true}
use Rattle.std.proofs.lemmas.Bool.Decides.{nat_tests}
use Rattle.std.specs.Cmp.{unsigned_tied}
use Rattle.std.specs.Prelude.{◌==◌, if◌then◌else◌, slice_get}
use Rattle.private_store.specs.declared.frames.Item.{Item}
use Rattle.std.specs.Ordering.{eq_by_cmp, nat_cmp}
use Rattle.std.specs.FinMap.{find}
use Rattle.private_store.specs.rules.Frames.{Read, item_of, is_create, kinds as frames_read}
use Rattle.wire_frames.specs.Kinds.{byte_of, command_byte, read_command, read_of}
use Rattle.wire_frames.specs.declared.kinds.FrameKind.{FrameKind}
use Rattle.wire_frames.specs.declared.kinds.FrameKind.TheVariants as frame
use Rattle.command_kinds.specs.declared.command_kind.CommandKind.{CommandKind}
use Rattle.command_kinds.specs.declared.command_kind.CommandKind.TheVariants as kinds

-- all kinds of commands, by byte from 2 on
abbrev pub all_kinds : List CommandKind
all_kinds =
    kinds.Create
    ∷ kinds.Write
    ∷ kinds.Seal
    ∷ kinds.Get
    ∷ kinds.Read
    ∷ kinds.Release
    ∷ kinds.Unpin
    ∷ kinds.Borrow
    ∷ kinds.GiveUp
    ∷ kinds.Delete
    ∷ kinds.EndTask
    ∷ kinds.Grant
    ∷ kinds.Withdraw
    ∷ kinds.Peek
    ∷ kinds.List
    ∷ kinds.Usage
    ∷ kinds.Leave
    ∷ kinds.GetWait
    ∷ kinds.CreateWait
    ∷ []

are_numbered : ℕ → List CommandKind → Bool
are_numbered n [] = true
are_numbered n (k ∷ ks) = nat_eq (command_byte k) n && are_numbered (n + 1) ks

byte_from : (n : ℕ) (ks : List CommandKind) (i : ℕ) → are_numbered n ks ≡ true → IfSome (slice_get ks i) (λ k. command_byte k ≡ n + i)
unfolding are_numbered
byte_from n [] i h = tt
byte_from n (k ∷ ks) zero h = let same = eqb-true (command_byte k) n (and_parts _ _ h).0 in omega (arith, same)
byte_from n (k ∷ ks) (suc i) h =
    let sum : n + 1 + i ≡ n + suc i = omega arith in
    rw (← sum) (byte_from (n + 1) ks i (and_parts _ _ h).1)

-- the kind at a place has the byte that is 2 above it
pub byte_at : (i : ℕ) → IfSome (slice_get all_kinds i) (λ k. command_byte k ≡ 2 + i)
unfolding are_numbered
byte_at i = byte_from 2 all_kinds i refl

are_below : ℕ → List (ℕ × Read) → Bool
are_below n [] = true
are_below n (e ∷ es) = nat_lt e.0 n && are_below n es

differ : (b k n : ℕ) → nat_lt k n ≡ true → n < b + 1 → (b == k) ≡ false
differ b k n below past = let less : k < n = ltb-true k n below in grind (arith, nat_tests)

find_past : (n b : ℕ) (es : List (ℕ × Read)) → are_below n es ≡ true → n < b + 1 → find nat_cmp b es ≡ None
unfolding are_below
find_past n b [] h past = refl
find_past n b (e ∷ es) h past =
    let below : nat_lt e.0 n ≡ true = (and_parts _ _ h).0 in
    let other : eq_by_cmp nat_cmp b e.0 ≡ false = unsigned_tied b e.0 ∙ differ b e.0 n below past in
    rw other (find_past n b es (and_parts _ _ h).1 past)

-- no kind has a byte above 20
pub find-past : (b : ℕ) → 20 < b → find nat_cmp b frames_read ≡ None
unfolding are_below
find-past b past = find_past 21 b frames_read refl (omega arith)

both_tests : (a b : Bool) (x : Item) → (if a then (if b then Some x else None) else None) ≡ (if a && b then Some x else None)
both_tests true b x = refl
both_tests false b x = refl

-- a body is read as its kind's byte says
item_of-command_byte : (kind : CommandKind) (body : List ℕ) → item_of (command_byte kind) body ≡ read_command kind body
item_of-command_byte kinds.Create body = both_tests (is_create body) (length body == 33) _
item_of-command_byte kinds.CreateWait body = both_tests (is_create body) (length body == 33) _
item_of-command_byte _ body = refl

pub item_of-byte_of : (kind : FrameKind) (body : List ℕ) → item_of (byte_of kind) body ≡ read_of kind body
item_of-byte_of frame.Hello body = refl
item_of-byte_of (frame.Of kind) body = item_of-command_byte kind body

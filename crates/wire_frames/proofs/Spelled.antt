-- What is read has no other spelling.
use Rattle.std.proofs.Common.{◌≡◌, ℕ, ◌+◌, ◌<◌, ◌≤◌, ◌^◌, Bool, true, false, ◌&&◌, List, [], ◌∷◌, ◌++◌, length, take, drop, Option, Some, None, zero, suc, refl, sym, ap, subst, ◌∙◌, arith, length-drop, get_or}
use Rattle.std.specs.Prelude.{◌==◌, not, IfSome, nat_le, nat_lt, option_and_then, if◌then◌else◌, slice_index}
use Rattle.std.proofs.Math.Seq.{drop-cons, take-add, take-length}
use Rattle.std.proofs.lemmas.List.{get_or-drop, length-take-le, take-append-drop}
use Rattle.std.proofs.lemmas.Bool.{and_parts, eqb-true, leb-true, ltb-false, ltb-true, true≢false}
use Rattle.std.proofs.lemmas.Bool.Decides.{nat_tests}
use Rattle.std.proofs.lemmas.Nat.{be_bytes_4}
use Rattle.std.proofs.lemmas.Option.{slice_get-get_or}
use Rattle.obj_id.specs.Ids.{IsId, IsTask, id_bytes}
use Rattle.obj_id.specs.declared.commands.Command.{Command}
use Rattle.obj_id.specs.declared.commands.Command.TheVariants as command
use Rattle.private_store.specs.declared.frames.Item.{Item}
use Rattle.private_store.specs.declared.frames.Item.TheVariants as item
use Rattle.private_store.specs.rules.Frames.{empty_body, be4, command_body, hello, id_at, is_create, is_id, item_body, item_of, kind_byte, kind_of, number_at, task_at, with_id}
use Rattle.wire_frames.specs.Items.{AreBytes, IsCommandBytes, IsItemBytes, is_bad_id}
use Rattle.wire_frames.specs.Kinds.{byte_of, end_task_item, fits_kind, command_byte, read_about, read_command, read_of, said}
use Rattle.wire_frames.specs.declared.kinds.FrameKind.{FrameKind}
use Rattle.wire_frames.specs.declared.kinds.FrameKind.TheVariants as frame
use Rattle.command_kinds.specs.declared.command_kind.CommandKind.{CommandKind}
use Rattle.command_kinds.specs.declared.command_kind.CommandKind.TheVariants as kinds
use Rattle.wire_frames.proofs.KindTables.{all_kinds, byte_at, find-past, item_of-byte_of}

-- ---- parts of bytes

pub bytes_drop : (k : ℕ) (xs : List ℕ) → AreBytes xs → AreBytes (drop k xs)
bytes_drop k xs h i = subst (λ b. b < 256) (sym (get_or-drop k xs i 0)) (h (k + i))

pub bytes_take : (n : ℕ) (xs : List ℕ) → AreBytes xs → AreBytes (take n xs)
bytes_take zero xs h i = omega arith
bytes_take (suc n) [] h i = omega arith
bytes_take (suc n) (x ∷ xs) h zero = h 0
bytes_take (suc n) (x ∷ xs) h (suc i) = bytes_take n xs (λ j. h (suc j)) i

pub number_spelled : (body : List ℕ) (k : ℕ) → AreBytes body → k + 4 ≤ length body → be4 (number_at body k) ≡ take 4 (drop k body)
number_spelled body k h long =
    let part = take 4 (drop k body) in
    let size : length part ≡ 4 = length-take-le 4 (drop k body) (omega (arith, length-drop k body)) in
    be_bytes_4 part (number_at body k) size (bytes_take 4 (drop k body) (bytes_drop k body h)) refl

-- the next part completes the front
pub further : (k n m : ℕ) (body : List ℕ) → k + n ≡ m → take k body ++ take n (drop k body) ≡ take m body
further k n m body e = sym (take-add k n body) ∙ ap (λ j. take j body) e

id_spelled : (body : List ℕ) → AreBytes body → 28 ≤ length body → id_bytes (id_at body) ≡ take 28 body
id_spelled body h long =
    let job = number_spelled body 20 h (omega arith) in
    let index = number_spelled body 24 h (omega arith) in
    (λ i. (take 20 body ++ job i) ++ index i)
    ∙ ap (λ front. front ++ take 4 (drop 24 body)) (further 20 4 24 body refl)
    ∙ further 24 4 28 body refl

all_of : (n : ℕ) (body : List ℕ) → length body ≡ n → take n body ≡ body
all_of n body e = subst (λ k. take k body ≡ body) e (take-length body)

-- ---- bodies that begin with an id

alone : (body : List ℕ) → AreBytes body → length body ≡ 28 → id_bytes (id_at body) ≡ body
alone body h e = id_spelled body h (omega arith) ∙ all_of 28 body e

with_task : (body : List ℕ) → AreBytes body → length body ≡ 48 → id_bytes (id_at body) ++ (task_at body 28).0 ≡ body
with_task body h e =
    ap (λ front. front ++ take 20 (drop 28 body)) (id_spelled body h (omega arith)) ∙ further 28 20 48 body refl ∙ all_of 48 body e

front_of_two : (body : List ℕ) → AreBytes body → 32 ≤ length body → id_bytes (id_at body) ++ be4 (number_at body 28) ≡ take 32 body
front_of_two body h long =
    (λ i. id_spelled body h (omega arith) i ++ number_spelled body 28 h (omega arith) i) ∙ further 28 4 32 body refl

with_number : (body : List ℕ) → AreBytes body → length body ≡ 32 → id_bytes (id_at body) ++ be4 (number_at body 28) ≡ body
with_number body h e = front_of_two body h (omega arith) ∙ all_of 32 body e

with_range : (body : List ℕ) → AreBytes body → length body ≡ 36
    → (id_bytes (id_at body) ++ be4 (number_at body 28)) ++ be4 (number_at body 32) ≡ body
with_range body h e =
    (λ i. front_of_two body h (omega arith) i ++ number_spelled body 32 h (omega arith) i) ∙ further 32 4 36 body refl ∙ all_of 36 body e

with_bytes : (body : List ℕ) → AreBytes body → 32 ≤ length body → (id_bytes (id_at body) ++ be4 (number_at body 28)) ++ drop 32 body ≡ body
with_bytes body h long = ap (λ front. front ++ drop 32 body) (front_of_two body h long) ∙ take-append-drop 32 body

one_of_two : (k : ℕ) → nat_le k 1 ≡ true → kind_byte (kind_of k) ≡ k
one_of_two zero h = refl
one_of_two (suc k) h = omega (arith, leb-true (suc k) 1 h)

with_copy : (body : List ℕ) → AreBytes body → (is_create body && (length body == 33)) ≡ true
    → id_bytes (id_at body) ++ kind_byte (kind_of (slice_index body 28)) ∷ be4 (number_at body 29) ≡ body
with_copy body h both =
    let e : length body ≡ 33 = eqb-true (length body) 33 (and_parts (is_create body) (length body == 33) both).1 in
    let copy = one_of_two (slice_index body 28) (and_parts (is_create body) (length body == 33) both).0 in
    let rest : take 4 (drop 29 body) ≡ drop 29 body = all_of 4 (drop 29 body) (omega (arith, length-drop 29 body)) in
    (λ i. id_spelled body h (omega arith) i ++ copy i ∷ number_spelled body 29 h (omega arith) i)
    ∙ ap (λ b. take 28 body ++ slice_index body 28 ∷ b) rest
    ∙ ap (λ b. take 28 body ++ b) (sym (drop-cons body 28 0 (omega arith)))
    ∙ take-append-drop 28 body

-- ---- of a program's parts

sized : (body : List ℕ) (n : ℕ) → (length body == n) ≡ true → length body ≡ n
sized body n h = eqb-true (length body) n h

number_small : (body : List ℕ) (k : ℕ) → AreBytes body → number_at body k < 2 ^ 32
number_small body k h =
    let part = bytes_take 4 (drop k body) (bytes_drop k body h) in
    omega (arith, part 0, part 1, part 2, part 3)

task_well : (body : List ℕ) (k : ℕ) → AreBytes body → k + 20 ≤ length body → IsTask (task_at body k)
task_well body k h long = record {
  task_length = length-take-le 20 (drop k body) (omega (arith, length-drop k body));
  task_bytes = bytes_take 20 (drop k body) (bytes_drop k body h);
}

positive : (n : ℕ) → not (n == 0) ≡ true → 1 ≤ n
positive n h = grind (arith, nat_tests)

id_well : (body : List ℕ) → AreBytes body → 28 ≤ length body → is_id (id_at body) ≡ true → IsId (id_at body)
id_well body h long is =
    let task = task_well body 0 h (omega arith) in
    let parts = and_parts (not (number_at body 20 == 0)) (not (number_at body 24 == 0)) is in
    record {
      task_length = task.task_length;
      task_bytes = task.task_bytes;
      job_positive = positive (number_at body 20) parts.0;
      job_fits = number_small body 20 h;
      index_positive = positive (number_at body 24) parts.1;
      index_fits = number_small body 24 h;
    }

copy_well : (body : List ℕ) → AreBytes body → (is_create body && (length body == 33)) ≡ true → is_id (id_at body) ≡ true
    → IsId (id_at body) × (number_at body 29 < 2 ^ 32)
copy_well body h both is =
    let e = sized body 33 (and_parts (is_create body) (length body == 33) both).1 in
    (id_well body h (omega arith) is, number_small body 29 h)

alone_well : (body : List ℕ) → AreBytes body → (length body == 28) ≡ true → is_id (id_at body) ≡ true → IsId (id_at body)
alone_well body h f is = let e = sized body 28 f in id_well body h (omega arith) is

tasked_well : (body : List ℕ) → AreBytes body → (length body == 48) ≡ true → is_id (id_at body) ≡ true → IsId (id_at body) × IsTask (task_at body 28)
tasked_well body h f is = let e = sized body 48 f in (id_well body h (omega arith) is, task_well body 28 h (omega arith))

numbered_well : (body : List ℕ) → AreBytes body → (length body == 32) ≡ true → is_id (id_at body) ≡ true → IsId (id_at body) × (number_at body 28 < 2 ^ 32)
numbered_well body h f is = let e = sized body 32 f in (id_well body h (omega arith) is, number_small body 28 h)

ranged_well : (body : List ℕ) → AreBytes body → (length body == 36) ≡ true → is_id (id_at body) ≡ true
    → IsId (id_at body) × (number_at body 28 < 2 ^ 32) × (number_at body 32 < 2 ^ 32)
ranged_well body h f is = let e = sized body 36 f in (id_well body h (omega arith) is, number_small body 28 h, number_small body 32 h)

said_well : (kind : CommandKind) (body : List ℕ) → AreBytes body → fits_kind kind body ≡ true → is_id (id_at body) ≡ true → IsItemBytes (said kind (id_at body) body)
said_well kinds.Create body h f is = copy_well body h f is
said_well kinds.Write body h f is =
    let long : 32 ≤ length body = leb-true 32 (length body) f in
    (id_well body h (omega arith) is, number_small body 28 h)
said_well kinds.Seal body h f is = alone_well body h f is
said_well kinds.Get body h f is = alone_well body h f is
said_well kinds.Read body h f is = ranged_well body h f is
said_well kinds.Release body h f is = alone_well body h f is
said_well kinds.Unpin body h f is = tasked_well body h f is
said_well kinds.Borrow body h f is = tasked_well body h f is
said_well kinds.GiveUp body h f is = tasked_well body h f is
said_well kinds.Delete body h f is = alone_well body h f is
said_well kinds.EndTask body h f is = absurd (true≢false (sym f))
said_well kinds.Grant body h f is = numbered_well body h f is
said_well kinds.Withdraw body h f is = numbered_well body h f is
said_well kinds.Peek body h f is = ranged_well body h f is
said_well kinds.List body h f is = absurd (true≢false (sym f))
said_well kinds.Usage body h f is = absurd (true≢false (sym f))
said_well kinds.Leave body h f is = absurd (true≢false (sym f))
said_well kinds.GetWait body h f is = alone_well body h f is
said_well kinds.CreateWait body h f is = copy_well body h f is

-- what is said is spelled as it was read
said_spelled : (kind : CommandKind) (body : List ℕ) → AreBytes body → fits_kind kind body ≡ true
    → item_body (said kind (id_at body) body) ≡ Some (command_byte kind ∷ body)
said_spelled kinds.Create body h f = ap (λ b. Some (0x02 ∷ b)) (with_copy body h f)
said_spelled kinds.Write body h f = ap (λ b. Some (0x03 ∷ b)) (with_bytes body h (leb-true 32 (length body) f))
said_spelled kinds.Seal body h f = ap (λ b. Some (0x04 ∷ b)) (alone body h (sized body 28 f))
said_spelled kinds.Get body h f = ap (λ b. Some (0x05 ∷ b)) (alone body h (sized body 28 f))
said_spelled kinds.Read body h f = ap (λ b. Some (0x06 ∷ b)) (with_range body h (sized body 36 f))
said_spelled kinds.Release body h f = ap (λ b. Some (0x07 ∷ b)) (alone body h (sized body 28 f))
said_spelled kinds.Unpin body h f = ap (λ b. Some (0x08 ∷ b)) (with_task body h (sized body 48 f))
said_spelled kinds.Borrow body h f = ap (λ b. Some (0x09 ∷ b)) (with_task body h (sized body 48 f))
said_spelled kinds.GiveUp body h f = ap (λ b. Some (0x0a ∷ b)) (with_task body h (sized body 48 f))
said_spelled kinds.Delete body h f = ap (λ b. Some (0x0b ∷ b)) (alone body h (sized body 28 f))
said_spelled kinds.EndTask body h f = absurd (true≢false (sym f))
said_spelled kinds.Grant body h f = ap (λ b. Some (0x0d ∷ b)) (with_number body h (sized body 32 f))
said_spelled kinds.Withdraw body h f = ap (λ b. Some (0x0e ∷ b)) (with_number body h (sized body 32 f))
said_spelled kinds.Peek body h f = ap (λ b. Some (0x0f ∷ b)) (with_range body h (sized body 36 f))
said_spelled kinds.List body h f = absurd (true≢false (sym f))
said_spelled kinds.Usage body h f = absurd (true≢false (sym f))
said_spelled kinds.Leave body h f = absurd (true≢false (sym f))
said_spelled kinds.GetWait body h f = ap (λ b. Some (0x13 ∷ b)) (alone body h (sized body 28 f))
said_spelled kinds.CreateWait body h f = ap (λ b. Some (0x14 ∷ b)) (with_copy body h f)

-- ---- each kind

-- the item is of a program's parts, and these are its kind's byte and its body
pub record IsSpelled (byte : ℕ) (body : List ℕ) (x : Item) : Type 0 where
  pub spelled : item_body x ≡ Some (byte ∷ body)
  pub well : IsItemBytes x

some_if : (b : Bool) (y x : Item) → (if b then Some y else None) ≡ Some x → (b ≡ true) × (y ≡ x)
some_if true y x e = (refl, cc)
some_if false y x e = absurd cc

not_bad : (b : Bool) (y x : Item) → (if b then y else item.BadId) ≡ x → is_bad_id x ≡ false → (b ≡ true) × (y ≡ x)
not_bad true y x e ok = (refl, e)
not_bad false y x e ok = absurd (true≢false (ap is_bad_id e ∙ ok))

nothing : (body : List ℕ) → (length body == 0) ≡ true → [] ≡ body
nothing [] h = refl
nothing (b ∷ bs) h = absurd (omega (arith, eqb-true (length (b ∷ bs)) 0 h))

empty_body_spelled : (c : Command (List ℕ)) (byte : ℕ) (body : List ℕ) (x : Item) → command_body c ≡ byte ∷ [] → IsCommandBytes c → empty_body c body ≡ Some x
    → IsSpelled byte body x
empty_body_spelled c byte body x spelled is e =
    let p = some_if (length body == 0) (item.Command c) x e in
    subst (IsSpelled byte body) p.1 (record {
      spelled = ap (λ b. Some b) spelled ∙ ap (λ b. Some (byte ∷ b)) (nothing body p.0);
      well = is;
    })

hello_spelled : (body : List ℕ) (x : Item) → AreBytes body → hello body ≡ Some x → IsSpelled 0x01 body x
hello_spelled body x h e =
    let p = some_if (length body == 36) (item.Hello (record { 0 = number_at body 0 }) (record { 0 = drop 4 body })) x e in
    let long = sized body 36 p.0 in
    let whole : be4 (number_at body 0) ++ drop 4 body ≡ body = ap (λ f. f ++ drop 4 body) (number_spelled body 0 h (omega arith)) ∙ take-append-drop 4 body in
    subst (IsSpelled 0x01 body) p.1 (record {
      spelled = ap (λ b. Some (0x01 ∷ b)) whole;
      well = (number_small body 0 h, omega (arith, length-drop 4 body));
    })

end_task_spelled : (body : List ℕ) (x : Item) → AreBytes body → end_task_item body ≡ Some x → IsSpelled 0x0c body x
end_task_spelled body x h e =
    let p = some_if (length body == 20) (item.Command (command.EndTask (task_at body 0))) x e in
    let long = sized body 20 p.0 in
    subst (IsSpelled 0x0c body) p.1 (record {
      spelled = ap (λ b. Some (0x0c ∷ b)) (all_of 20 body long);
      well = task_well body 0 h (omega arith);
    })

about_spelled : (kind : CommandKind) (body : List ℕ) (x : Item) → AreBytes body → read_about kind body ≡ Some x → is_bad_id x ≡ false
    → IsSpelled (command_byte kind) body x
about_spelled kind body x h e ok =
    let said_here = said kind (id_at body) body in
    let p = some_if (fits_kind kind body) (with_id body said_here) x e in
    let same = not_bad (is_id (id_at body)) said_here x p.1 ok in
    subst (IsSpelled (command_byte kind) body) same.1 (record { spelled = said_spelled kind body h p.0; well = said_well kind body h p.0 same.0 })

command_spelled : (kind : CommandKind) (body : List ℕ) (x : Item) → AreBytes body → read_command kind body ≡ Some x → is_bad_id x ≡ false
    → IsSpelled (command_byte kind) body x
command_spelled kinds.EndTask body x h e ok = end_task_spelled body x h e
command_spelled kinds.List body x h e ok = empty_body_spelled command.List 0x10 body x refl tt e
command_spelled kinds.Usage body x h e ok = empty_body_spelled command.Usage 0x11 body x refl tt e
command_spelled kinds.Leave body x h e ok = empty_body_spelled command.Leave 0x12 body x refl tt e
command_spelled kind body x h e ok = about_spelled kind body x h e ok

kind_spelled : (kind : FrameKind) (body : List ℕ) (x : Item) → AreBytes body → read_of kind body ≡ Some x → is_bad_id x ≡ false
    → IsSpelled (byte_of kind) body x
kind_spelled frame.Hello body x h e ok = hello_spelled body x h e
kind_spelled (frame.Of kind) body x h e ok = command_spelled kind body x h e ok

-- ---- each byte

known_spelled : (kind : FrameKind) (byte : ℕ) (body : List ℕ) (x : Item) → byte_of kind ≡ byte → AreBytes body → item_of byte body ≡ Some x
    → is_bad_id x ≡ false → IsSpelled byte body x
known_spelled kind byte body x is h e ok =
    subst (λ b. IsSpelled b body x) is
    (kind_spelled kind body x h (sym (item_of-byte_of kind body) ∙ ap (λ b. item_of b body) is ∙ e) ok)

none_some : (o : Option Item) (x : Item) {B : Type 0} → o ≡ None → o ≡ Some x → B
none_some o x none some = absurd (cc)

byte_spelled : (byte : ℕ) (is_kind : Bool) (body : List ℕ) (x : Item) → nat_lt byte 19 ≡ is_kind → AreBytes body → item_of (2 + byte) body ≡ Some x
    → is_bad_id x ≡ false → IsSpelled (2 + byte) body x
byte_spelled byte true body x t h e ok =
    let less : byte < 19 = ltb-true byte 19 t in
    let there = slice_get-get_or all_kinds byte kinds.Create less in
    let is : command_byte (get_or all_kinds byte kinds.Create) ≡ 2 + byte = subst (λ o. IfSome o (λ k. command_byte k ≡ 2 + byte)) there (byte_at byte) in
    known_spelled (frame.Of (get_or all_kinds byte kinds.Create)) (2 + byte) body x is h e ok
byte_spelled byte false body x t h e ok =
    none_some (item_of (2 + byte) body) x (ap (λ o. option_and_then (λ read. read body) o) (find-past (2 + byte) (omega (arith, ltb-false byte 19 t)))) e

two_more : (n : ℕ) → 2 + n ≡ suc (suc n)
two_more n = omega arith

-- an item has the frame that it is read from, unless it is BadId
pub IsSpelled-item_of : (byte : ℕ) (body : List ℕ) (x : Item) → AreBytes body → item_of byte body ≡ Some x → is_bad_id x ≡ false
    → IsSpelled byte body x
IsSpelled-item_of zero body x h e ok = none_some (item_of 0 body) x refl e
IsSpelled-item_of (suc zero) body x h e ok = known_spelled frame.Hello 1 body x refl h e ok
IsSpelled-item_of (suc (suc byte)) body x h e ok =
    subst (λ b. item_of b body ≡ Some x → IsSpelled b body x) (two_more byte) (λ read. byte_spelled byte (nat_lt byte 19) body x refl h read ok) e

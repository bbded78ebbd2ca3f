-- Entries that compare as equal are equal.
use Rattle.std.proofs.Common.{◌≡◌, ℕ, Bool, true, false, ◌==◌, ◌&&◌, List, [], ◌∷◌, Option, Some, None, refl, ap, arith}
use Rattle.std.proofs.lemmas.Bool.Decides.{nat_tests}
use Rattle.std.specs.Cmp.Lexicographic.{pointwise}
use Rattle.std.specs.Prelude.{nat_eq}
use Rattle.obj_id.specs.Ids.{id_eq}
use Rattle.obj_id.specs.contracts.commands.CopyStatePartialEq.TheImpl as state_eq
use Rattle.obj_id.specs.contracts.commands.GrantedItemPartialEq.TheImpl as granted_eq
use Rattle.obj_id.specs.contracts.commands.KindPartialEq.TheImpl as kind_eq
use Rattle.obj_id.specs.contracts.commands.OwnItemPartialEq.TheImpl as own_eq
use Rattle.obj_id.specs.contracts.commands.UsagePartialEq.TheImpl as usage_eq
use Rattle.obj_id.specs.contracts.refusals.RefusalPartialEq.TheImpl as refusal_eq
use Rattle.obj_id.specs.contracts.works.DeviceKeyPartialEq.TheImpl as key_eq
use Rattle.obj_id.specs.contracts.works.WorkKindPartialEq.TheImpl as work_kind_eq
use Rattle.obj_id.specs.declared.commands.Command.TheVariants as command
use Rattle.obj_id.specs.declared.commands.Command.{Command}
use Rattle.obj_id.specs.declared.commands.CopyState.TheVariants.{Created, Sealed, Restoring, Fetching, Away}
use Rattle.obj_id.specs.declared.commands.CopyState.{CopyState}
use Rattle.obj_id.specs.declared.commands.GrantedItem.{GrantedItem}
use Rattle.obj_id.specs.declared.commands.Kind.TheVariants.{Primary, Secondary}
use Rattle.obj_id.specs.declared.commands.Kind.{Kind}
use Rattle.obj_id.specs.declared.commands.OwnItem.{OwnItem}
use Rattle.obj_id.specs.declared.commands.Reply.TheVariants as reply
use Rattle.obj_id.specs.declared.commands.Reply.{Reply}
use Rattle.obj_id.specs.declared.commands.Usage.{Usage}
use Rattle.obj_id.specs.declared.ids.JobNo.{JobNo}
use Rattle.obj_id.specs.declared.ids.ObjectId.{ObjectId}
use Rattle.obj_id.specs.declared.ids.TaskNo.{TaskNo}
use Rattle.obj_id.specs.declared.refusals.Refusal.TheVariants as refusal
use Rattle.obj_id.specs.declared.refusals.Refusal.{Refusal}
use Rattle.obj_id.specs.declared.works.DeviceKey.{DeviceKey}
use Rattle.obj_id.specs.declared.works.Quota.{Quota}
use Rattle.obj_id.specs.declared.works.Work.{Work}
use Rattle.obj_id.specs.declared.works.WorkKind.TheVariants as kind
use Rattle.obj_id.specs.declared.works.WorkKind.{WorkKind}
use Rattle.private_store.specs.contracts.inputs.JudgedPartialEq.TheImpl as judged_eq
use Rattle.private_store.specs.declared.inputs.ChunkVerdict.TheVariants as chunk
use Rattle.private_store.specs.declared.inputs.ChunkVerdict.{ChunkVerdict}
use Rattle.private_store.specs.declared.inputs.Judged.TheVariants as judged
use Rattle.private_store.specs.declared.inputs.Judged.{Judged}
use Rattle.private_store.specs.declared.inputs.Source.{Source}
use Rattle.private_store.specs.declared.inputs.WorkVerdict.TheVariants as work
use Rattle.private_store.specs.declared.inputs.WorkVerdict.{WorkVerdict}
use Rattle.store_facts.proofs.Ids.{id_eq-equal}
use Rattle.store_facts.proofs.Tests.{both, both_left, both_right, true_false}
use Rattle.node_journal.specs.contracts.entries.EntryPartialEq.TheImpl as entry_eq
use Rattle.node_journal.specs.contracts.entries.EventNamePartialEq.TheImpl as name_eq
use Rattle.node_journal.specs.declared.entries.Entry.{Entry}
use Rattle.node_journal.specs.declared.entries.EventName.TheVariants as name
use Rattle.node_journal.specs.declared.entries.EventName.{EventName}

-- ---- numbers and ids

nat_equal : (a b : ℕ) → (a == b) ≡ true → a ≡ b
nat_equal a b t = grind (arith, nat_tests, t)

job_equal : (a b : JobNo) → (a.0 == b.0) ≡ true → a ≡ b
job_equal a b t = let same = nat_equal a.0 b.0 t in λ i. record { 0 = same i }

abbrev of_task : TaskNo → ObjectId
of_task task = record { task = task; job = record { 0 = 0 }; index = 0 }

task_equal : (a b : TaskNo) → pointwise nat_eq a.0 b.0 ≡ true → a ≡ b
task_equal a b t = ap (λ (id : ObjectId). id.task) (id_eq-equal (of_task a) (of_task b) (both (pointwise nat_eq a.0 b.0) true t refl))

refusal_equal : (a b : Refusal) → (refusal_eq.eq-value).it a b ≡ true → a ≡ b
refusal_equal refusal.NotAdmitted refusal.NotAdmitted t = refl
refusal_equal refusal.BadId refusal.BadId t = refl
refusal_equal refusal.Exists refusal.Exists t = refl
refusal_equal refusal.Absent refusal.Absent t = refl
refusal_equal refusal.NotSealed refusal.NotSealed t = refl
refusal_equal refusal.AlreadySealed refusal.AlreadySealed t = refl
refusal_equal refusal.BadSize refusal.BadSize t = refl
refusal_equal refusal.OutOfBounds refusal.OutOfBounds t = refl
refusal_equal refusal.Full refusal.Full t = refl
refusal_equal refusal.Pending refusal.Pending t = refl
refusal_equal refusal.NotHeld refusal.NotHeld t = refl
refusal_equal refusal.Granted refusal.Granted t = refl
refusal_equal refusal.NotGranted refusal.NotGranted t = refl
refusal_equal refusal.DeviceFailed refusal.DeviceFailed t = refl
refusal_equal refusal.Damaged refusal.Damaged t = refl
refusal_equal refusal.Busy refusal.Busy t = refl
refusal_equal refusal.TooMany refusal.TooMany t = refl
refusal_equal refusal.Gone refusal.Gone t = refl
refusal_equal refusal.NoMemory refusal.NoMemory t = refl
refusal_equal refusal.Malformed refusal.Malformed t = refl
refusal_equal refusal.NoRoom refusal.NoRoom t = refl
refusal_equal refusal.NotOwner refusal.NotOwner t = refl
refusal_equal refusal.NotResident refusal.NotResident t = refl
refusal_equal refusal.Stale refusal.Stale t = refl
refusal_equal _ _ t = true_false t

-- ---- commands

-- of a command, by what it is as an input
abbrev Command_same : Command ℕ → Command ℕ → Type 0
Command_same c d = (judged_eq.eq-value).it (judged.Call 0 c) (judged.Call 0 d) ≡ true

id_task : (make : ObjectId → TaskNo → Command ℕ) (a b : ObjectId) (s t : TaskNo) → (id_eq a b && pointwise nat_eq s.0 t.0) ≡ true → make a s ≡ make b t
id_task make a b s t h = λ i. make (id_eq-equal a b (both_left _ _ h) i) (task_equal s t (both_right (id_eq a b) _ h) i)

id_job : (make : ObjectId → JobNo → Command ℕ) (a b : ObjectId) (s t : JobNo) → (id_eq a b && (s.0 == t.0)) ≡ true → make a s ≡ make b t
id_job make a b s t h = λ i. make (id_eq-equal a b (both_left _ _ h) i) (job_equal s t (both_right (id_eq a b) _ h) i)

id_two : (make : ObjectId → ℕ → ℕ → Command ℕ) (a b : ObjectId) (s t m n : ℕ) → (id_eq a b && ((s == t) && (m == n))) ≡ true → make a s m ≡ make b t n
id_two make a b s t m n h =
    let rest = both_right (id_eq a b) _ h in
    λ i. make (id_eq-equal a b (both_left _ _ h) i) (nat_equal s t (both_left _ _ rest) i) (nat_equal m n (both_right (s == t) _ rest) i)

command_equal : (c d : Command ℕ) → Command_same c d → c ≡ d
command_equal (command.Create a Primary m) (command.Create b Primary n) h = λ i. command.Create (id_eq-equal a b (both_left _ _ h) i) Primary (nat_equal m n (both_right (id_eq a b) _ h) i)
command_equal (command.Create a Secondary m) (command.Create b Secondary n) h = λ i. command.Create (id_eq-equal a b (both_left _ _ h) i) Secondary (nat_equal m n (both_right (id_eq a b) _ h) i)
command_equal (command.Write a s m) (command.Write b t n) h = id_two command.Write a b s t m n h
command_equal (command.Seal a) (command.Seal b) h = ap command.Seal (id_eq-equal a b h)
command_equal (command.Get a) (command.Get b) h = ap command.Get (id_eq-equal a b h)
command_equal (command.Read a s m) (command.Read b t n) h = id_two command.Read a b s t m n h
command_equal (command.Release a) (command.Release b) h = ap command.Release (id_eq-equal a b h)
command_equal (command.Unpin a s) (command.Unpin b t) h = id_task command.Unpin a b s t h
command_equal (command.Borrow a s) (command.Borrow b t) h = id_task command.Borrow a b s t h
command_equal (command.GiveUp a s) (command.GiveUp b t) h = id_task command.GiveUp a b s t h
command_equal (command.Delete a) (command.Delete b) h = ap command.Delete (id_eq-equal a b h)
command_equal (command.EndTask s) (command.EndTask t) h = ap command.EndTask (task_equal s t h)
command_equal (command.Grant a s) (command.Grant b t) h = id_job command.Grant a b s t h
command_equal (command.Withdraw a s) (command.Withdraw b t) h = id_job command.Withdraw a b s t h
command_equal (command.Peek a s m) (command.Peek b t n) h = id_two command.Peek a b s t m n h
command_equal command.List command.List h = refl
command_equal command.Usage command.Usage h = refl
command_equal command.Leave command.Leave h = refl
command_equal (command.Create a Primary m) (command.Create b Secondary n) h = true_false (both_right (id_eq a b) false h)
command_equal (command.Create a Secondary m) (command.Create b Primary n) h = true_false (both_right (id_eq a b) false h)
command_equal _ _ h = true_false h

-- ---- inputs

quota_equal : (a b : Quota) → ((a.window == b.window) && (a.device == b.device)) ≡ true → a ≡ b
quota_equal a b h =
    let window = nat_equal a.window b.window (both_left _ _ h) in
    let device = nat_equal a.device b.device (both_right (a.window == b.window) _ h) in
    λ i. record { window = window i; device = device i }

abbrev source_same : Option Source → Option Source → Bool
source_same a b = (judged_eq.eq-value).it (judged.Located (of_task (record { 0 = [] })) 0 a) (judged.Located (of_task (record { 0 = [] })) 0 b)

source_equal : (a b : Option Source) → source_same a b ≡ true → a ≡ b
source_equal None None h = refl
source_equal (Some a) (Some b) h =
    let node = nat_equal a.node b.node (both_left _ _ h) in
    let length = nat_equal a.length b.length (both_right (a.node == b.node) _ h) in
    λ i. Some (record { node = node i; length = length i })
source_equal None (Some b) h = true_false h
source_equal (Some a) None h = true_false h

abbrev answered_same : WorkVerdict → WorkVerdict → Bool
answered_same a b = (judged_eq.eq-value).it (judged.Answer 0 a) (judged.Answer 0 b)

answered_equal : (a b : WorkVerdict) → answered_same a b ≡ true → a ≡ b
answered_equal work.Fine work.Fine h = refl
answered_equal work.Failed work.Failed h = refl
answered_equal work.Damaged work.Damaged h = refl
answered_equal _ _ h = true_false h

abbrev chunk_same : ChunkVerdict → ChunkVerdict → Bool
chunk_same a b = (judged_eq.eq-value).it (judged.Chunk (of_task (record { 0 = [] })) 0 0 0 a) (judged.Chunk (of_task (record { 0 = [] })) 0 0 0 b)

chunk_equal : (a b : ChunkVerdict) → chunk_same a b ≡ true → a ≡ b
chunk_equal chunk.Part chunk.Part h = refl
chunk_equal chunk.Whole chunk.Whole h = refl
chunk_equal chunk.Damaged chunk.Damaged h = refl
chunk_equal chunk.Ignored chunk.Ignored h = refl
chunk_equal _ _ h = true_false h

bool_equal : (a b : Bool) → (judged_eq.eq-value).it (judged.Pull (of_task (record { 0 = [] })) 0 a) (judged.Pull (of_task (record { 0 = [] })) 0 b) ≡ true → a ≡ b
bool_equal true true h = refl
bool_equal false false h = refl
bool_equal true false h = true_false h
bool_equal false true h = true_false h

judged_equal : (x y : Judged) → (judged_eq.eq-value).it x y ≡ true → x ≡ y
judged_equal (judged.Begin a) (judged.Begin b) h = ap judged.Begin (quota_equal a b h)
judged_equal (judged.Requota a) (judged.Requota b) h = ap judged.Requota (quota_equal a b h)
judged_equal (judged.Call s c) (judged.Call t d) h = λ i. judged.Call (nat_equal s t (both_left _ _ h) i) (command_equal c d (both_right (s == t) _ h) i)
judged_equal (judged.Answer m v) (judged.Answer n w) h = λ i. judged.Answer (nat_equal m n (both_left _ _ h) i) (answered_equal v w (both_right (m == n) _ h) i)
judged_equal (judged.Located a m v) (judged.Located b n w) h =
    let rest = both_right (id_eq a b) _ h in
    λ i. judged.Located (id_eq-equal a b (both_left _ _ h) i) (nat_equal m n (both_left _ _ rest) i) (source_equal v w (both_right (m == n) _ rest) i)
judged_equal (judged.Chunk a m j s v) (judged.Chunk b n k t w) h =
    let second = both_right (id_eq a b) _ h in
    let third = both_right (m == n) _ second in
    let fourth = both_right (j == k) _ third in
    λ i. judged.Chunk (id_eq-equal a b (both_left _ _ h) i) (nat_equal m n (both_left _ _ second) i) (nat_equal j k (both_left _ _ third) i) (nat_equal s t (both_left _ _ fourth) i) (chunk_equal v w (both_right (s == t) _ fourth) i)
judged_equal (judged.Pull a m v) (judged.Pull b n w) h =
    let rest = both_right (id_eq a b) _ h in
    λ i. judged.Pull (id_eq-equal a b (both_left _ _ h) i) (nat_equal m n (both_left _ _ rest) i) (bool_equal v w (both_right (m == n) _ rest) i)
judged_equal (judged.NotHere a m s) (judged.NotHere b n t) h =
    let rest = both_right (id_eq a b) _ h in
    λ i. judged.NotHere (id_eq-equal a b (both_left _ _ h) i) (nat_equal m n (both_left _ _ rest) i) (nat_equal s t (both_right (m == n) _ rest) i)
judged_equal (judged.Received a m j s) (judged.Received b n k t) h =
    let second = both_right (id_eq a b) _ h in
    let third = both_right (m == n) _ second in
    λ i. judged.Received (id_eq-equal a b (both_left _ _ h) i) (nat_equal m n (both_left _ _ second) i) (job_equal j k (both_left _ _ third) i) (nat_equal s t (both_right (j.0 == k.0) _ third) i)
judged_equal (judged.Withdrawn a j s) (judged.Withdrawn b k t) h =
    let rest = both_right (id_eq a b) _ h in
    λ i. judged.Withdrawn (id_eq-equal a b (both_left _ _ h) i) (job_equal j k (both_left _ _ rest) i) (nat_equal s t (both_right (j.0 == k.0) _ rest) i)
judged_equal judged.End judged.End h = refl
judged_equal _ _ h = true_false h

-- ---- replies

-- an entry that has nothing else
abbrev entry_of : EventName → Option Judged → Reply ℕ → Entry
entry_of event input response = record { number = 0; event = event; input = input; reply = response }

abbrev reply_same : Reply ℕ → Reply ℕ → Bool
reply_same a b = (entry_eq.eq-value).it (entry_of name.Take None a) (entry_of name.Take None b)

state_equal : (a b : CopyState) → (state_eq.eq-value).it a b ≡ true → a ≡ b
state_equal Created Created h = refl
state_equal Sealed Sealed h = refl
state_equal Restoring Restoring h = refl
state_equal Fetching Fetching h = refl
state_equal Away Away h = refl
state_equal _ _ h = true_false h

kind_equal : (a b : Kind) → (kind_eq.eq-value).it a b ≡ true → a ≡ b
kind_equal Primary Primary h = refl
kind_equal Secondary Secondary h = refl
kind_equal Primary Secondary h = true_false h
kind_equal Secondary Primary h = true_false h

own_item_equal : (a b : OwnItem) → (own_eq.eq-value).it a b ≡ true → a ≡ b
own_item_equal a b h =
    let second = both_right (id_eq a.id b.id) _ h in
    let third = both_right ((state_eq.eq-value).it a.state b.state) _ second in
    let id = id_eq-equal a.id b.id (both_left _ _ h) in
    let state = state_equal a.state b.state (both_left _ _ second) in
    let kind = kind_equal a.kind b.kind (both_left _ _ third) in
    let length = nat_equal a.length b.length (both_right ((kind_eq.eq-value).it a.kind b.kind) _ third) in
    λ i. record { id = id i; state = state i; kind = kind i; length = length i }

granted_item_equal : (a b : GrantedItem) → (granted_eq.eq-value).it a b ≡ true → a ≡ b
granted_item_equal a b h =
    let rest = both_right (id_eq a.id b.id) _ h in
    let id = id_eq-equal a.id b.id (both_left _ _ h) in
    let length = nat_equal a.length b.length (both_left _ _ rest) in
    let depth = nat_equal a.depth b.depth (both_right (a.length == b.length) _ rest) in
    λ i. record { id = id i; length = length i; depth = depth i }

-- lists whose items are the same by this test are equal, if the items are
lists_equal : {X : Type 0} (same : X → X → Bool) → ((a b : X) → same a b ≡ true → a ≡ b) → (xs ys : List X) → pointwise same xs ys ≡ true → xs ≡ ys
lists_equal same equal [] [] h = refl
lists_equal same equal (x ∷ xs) (y ∷ ys) h = λ i. equal x y (both_left _ _ h) i ∷ lists_equal same equal xs ys (both_right (same x y) _ h) i
lists_equal same equal [] (y ∷ ys) h = true_false h
lists_equal same equal (x ∷ xs) [] h = true_false h

usage_equal : (a b : Usage) → (usage_eq.eq-value).it a b ≡ true → a ≡ b
usage_equal a b h =
    let second = both_right (a.window == b.window) _ h in
    let third = both_right (a.window_used == b.window_used) _ second in
    let fourth = both_right (a.device == b.device) _ third in
    let fifth = both_right (a.device_used == b.device_used) _ fourth in
    let window = nat_equal a.window b.window (both_left _ _ h) in
    let window_used = nat_equal a.window_used b.window_used (both_left _ _ second) in
    let device = nat_equal a.device b.device (both_left _ _ third) in
    let device_used = nat_equal a.device_used b.device_used (both_left _ _ fourth) in
    let copies = nat_equal a.copies b.copies (both_left _ _ fifth) in
    let works = nat_equal a.works b.works (both_right (a.copies == b.copies) _ fifth) in
    λ i. record { window = window i; window_used = window_used i; device = device i; device_used = device_used i; copies = copies i; works = works i }

work_kind_equal : (a b : WorkKind) → (work_kind_eq.eq-value).it a b ≡ true → a ≡ b
work_kind_equal kind.Write kind.Write h = refl
work_kind_equal kind.Read kind.Read h = refl
work_kind_equal kind.Write kind.Read h = true_false h
work_kind_equal kind.Read kind.Write h = true_false h

key_equal : (a b : DeviceKey) → (key_eq.eq-value).it a b ≡ true → a ≡ b
key_equal a b h =
    let job = job_equal a.job b.job (both_left _ _ h) in
    let number = nat_equal a.number b.number (both_right (a.job.0 == b.job.0) _ h) in
    λ i. record { job = job i; number = number i }

abbrev payload_same : Option ℕ → Option ℕ → Bool
payload_same a b = reply_same (reply.Work (of a)) (reply.Work (of b))
  where
    of : Option ℕ → Work ℕ
    of payload = record { job = record { 0 = 0 }; number = 0; kind = kind.Write; key = record { job = record { 0 = 0 }; number = 0 }; length = 0; payload = payload }

payload_equal : (a b : Option ℕ) → payload_same a b ≡ true → a ≡ b
payload_equal None None h = refl
payload_equal (Some a) (Some b) h = ap Some (nat_equal a b h)
payload_equal None (Some b) h = true_false h
payload_equal (Some a) None h = true_false h

work_equal : (a b : Work ℕ) → reply_same (reply.Work a) (reply.Work b) ≡ true → a ≡ b
work_equal a b h =
    let second = both_right (a.job.0 == b.job.0) _ h in
    let third = both_right (a.number == b.number) _ second in
    let fourth = both_right ((work_kind_eq.eq-value).it a.kind b.kind) _ third in
    let fifth = both_right ((key_eq.eq-value).it a.key b.key) _ fourth in
    let job = job_equal a.job b.job (both_left _ _ h) in
    let number = nat_equal a.number b.number (both_left _ _ second) in
    let kind = work_kind_equal a.kind b.kind (both_left _ _ third) in
    let key = key_equal a.key b.key (both_left _ _ fourth) in
    let length = nat_equal a.length b.length (both_left _ _ fifth) in
    let payload = payload_equal a.payload b.payload (both_right (a.length == b.length) _ fifth) in
    λ i. record { job = job i; number = number i; kind = kind i; key = key i; length = length i; payload = payload i }

reply_equal : (a b : Reply ℕ) → reply_same a b ≡ true → a ≡ b
reply_equal reply.Ok reply.Ok h = refl
reply_equal (reply.Placed s m) (reply.Placed t n) h = λ i. reply.Placed (nat_equal s t (both_left _ _ h) i) (nat_equal m n (both_right (s == t) _ h) i)
reply_equal (reply.Got m) (reply.Got n) h = ap reply.Got (nat_equal m n h)
reply_equal (reply.Bytes m) (reply.Bytes n) h = ap reply.Bytes (nat_equal m n h)
reply_equal (reply.List own granted) (reply.List more given) h =
    λ i. reply.List (lists_equal (own_eq.eq-value).it own_item_equal own more (both_left _ _ h) i) (lists_equal (granted_eq.eq-value).it granted_item_equal granted given (both_right (pointwise (own_eq.eq-value).it own more) _ h) i)
reply_equal (reply.Usage a) (reply.Usage b) h = ap reply.Usage (usage_equal a b h)
reply_equal (reply.Work a) (reply.Work b) h = ap reply.Work (work_equal a b h)
reply_equal reply.NoWork reply.NoWork h = refl
reply_equal (reply.Refused a) (reply.Refused b) h = ap reply.Refused (refusal_equal a b h)
reply_equal _ _ h = true_false h

-- ---- entries

name_equal : (a b : EventName) → (name_eq.eq-value).it a b ≡ true → a ≡ b
name_equal (name.Admit a) (name.Admit b) h = ap name.Admit (quota_equal a b h)
name_equal (name.Requota a) (name.Requota b) h = ap name.Requota (quota_equal a b h)
name_equal name.JobEnd name.JobEnd h = refl
name_equal name.Take name.Take h = refl
name_equal (name.Finish m) (name.Finish n) h = ap name.Finish (nat_equal m n h)
name_equal (name.Call m) (name.Call n) h = ap name.Call (nat_equal m n h)
name_equal (name.Located a m) (name.Located b n) h = λ i. name.Located (id_eq-equal a b (both_left _ _ h) i) (nat_equal m n (both_right (id_eq a b) _ h) i)
name_equal (name.Pull s a m) (name.Pull t b n) h =
    let rest = both_right (s == t) _ h in
    λ i. name.Pull (nat_equal s t (both_left _ _ h) i) (id_eq-equal a b (both_left _ _ rest) i) (nat_equal m n (both_right (id_eq a b) _ rest) i)
name_equal (name.Chunk s a m j) (name.Chunk t b n k) h =
    let second = both_right (s == t) _ h in
    let third = both_right (id_eq a b) _ second in
    λ i. name.Chunk (nat_equal s t (both_left _ _ h) i) (id_eq-equal a b (both_left _ _ second) i) (nat_equal m n (both_left _ _ third) i) (nat_equal j k (both_right (m == n) _ third) i)
name_equal (name.NotHere s a m) (name.NotHere t b n) h =
    let rest = both_right (s == t) _ h in
    λ i. name.NotHere (nat_equal s t (both_left _ _ h) i) (id_eq-equal a b (both_left _ _ rest) i) (nat_equal m n (both_right (id_eq a b) _ rest) i)
name_equal _ _ h = true_false h

abbrev input_same : Option Judged → Option Judged → Bool
input_same a b = (entry_eq.eq-value).it (entry_of name.Take a reply.Ok) (entry_of name.Take b reply.Ok)

input_equal : (a b : Option Judged) → input_same a b ≡ true → a ≡ b
input_equal None None h = refl
input_equal (Some x) (Some y) h = ap Some (judged_equal x y (both_left ((judged_eq.eq-value).it x y) true h))
input_equal None (Some y) h = true_false h
input_equal (Some x) None h = true_false h

pub entry_equal : (a b : Entry) → (entry_eq.eq-value).it a b ≡ true → a ≡ b
entry_equal a b h =
    let second = both_right (a.number == b.number) _ h in
    let third = both_right ((name_eq.eq-value).it a.event b.event) _ second in
    let number = nat_equal a.number b.number (both_left _ _ h) in
    let event = name_equal a.event b.event (both_left _ _ second) in
    let input = input_equal a.input b.input (both _ true (both_left _ _ third) refl) in
    let response = reply_equal a.reply b.reply (both_right _ _ third) in
    λ i. record { number = number i; event = event i; input = input i; reply = response i }

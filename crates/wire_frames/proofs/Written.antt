-- What is written is read again.
use Rattle.std.proofs.Common.{◌≡◌, ℕ, ◌+◌, ◌-◌, ◌<◌, ◌≤◌, ◌^◌, true, ◌&&◌, List, [], ◌∷◌, ◌++◌, length, take, drop, Some, None, suc, refl, sym, ap, subst, ◌∙◌, arith, append_assoc, append-nil, length-append}
use Rattle.std.specs.Prelude.{◌==◌, All, flat_map, not, nat_le, if◌then◌else◌, slice_index}
use Rattle.std.proofs.lemmas.Bool.Decides.{nat_tests}
use Rattle.std.specs.Int.{from_be_bytes, w32}
use Rattle.std.proofs.Math.Seq.{drop-append_seam, take-append_seam, get_or-append_seam}
use Rattle.std.proofs.lemmas.Nat.{from_be_bytes-to_be_bytes_4}
use Rattle.obj_id.specs.Ids.{IsId, IsTask, id_bytes}
use Rattle.obj_id.specs.declared.ids.ObjectId.{ObjectId}
use Rattle.obj_id.specs.declared.ids.TaskNo.{TaskNo}
use Rattle.obj_id.specs.declared.ids.JobNo.{JobNo}
use Rattle.obj_id.specs.declared.commands.Kind.{Kind}
use Rattle.obj_id.specs.declared.commands.Kind.TheVariants.{Primary, Secondary}
use Rattle.private_store.specs.declared.frames.Item.{Item}
use Rattle.private_store.specs.declared.frames.Item.TheVariants as item
use Rattle.private_store.specs.rules.Frames.{be4, command_body, create_body, id_at, is_create, is_id, item_of, kind_byte, kind_of, number_at, range_body, stream_of, task_at, with_id, after_item, awaited_body, is_command_length, item_frame, frame as frame_of_body}
use Rattle.obj_id.specs.declared.commands.Command.{Command}
use Rattle.obj_id.specs.declared.commands.Command.TheVariants as command
use Rattle.wire_frames.specs.Items.{HasFrame, IsAwaited, IsCommandBytes}
use Rattle.wire_frames.specs.Heads.{after_items}
use Rattle.wire_frames.specs.declared.kinds.FrameKind.TheVariants as frame
use Rattle.wire_frames.proofs.KindTables.{item_of-byte_of}
use Rattle.std.proofs.lemmas.Bool.{and_parts, le-leb, leb-true}
use Rattle.wire_frames.proofs.Streams.{stream_of-head}
use Rattle.obj_id.specs.declared.works.JobKey.{JobKey}
use Rattle.private_store.specs.declared.frames.Awaited.{Awaited}
use Rattle.private_store.specs.declared.frames.Awaited.TheVariants as awaited
use Rattle.wire_frames.specs.Kinds.{fits_kind, read_about, said}
use Rattle.command_kinds.specs.declared.command_kind.CommandKind.{CommandKind}
use Rattle.command_kinds.specs.declared.command_kind.CommandKind.TheVariants as kinds

-- ---- parts of bytes

pub back : (front rest : List ℕ) (k : ℕ) → length front ≡ k → drop k (front ++ rest) ≡ rest
back front rest k e = subst (λ n. drop n (front ++ rest) ≡ rest) e (drop-append_seam front rest)

pub number_back : (front : List ℕ) (n : ℕ) (rest : List ℕ) (k : ℕ) → length front ≡ k → n < 2 ^ 32 → number_at (front ++ (be4 n ++ rest)) k ≡ n
number_back front n rest k e small =
    ap (λ bytes. from_be_bytes w32 (take 4 bytes)) (back front (be4 n ++ rest) k e) ∙ from_be_bytes-to_be_bytes_4 n small

task_back : (front : List ℕ) (task : TaskNo) (rest : List ℕ) (k : ℕ) → length front ≡ k → IsTask task → task_at (front ++ (task.0 ++ rest)) k ≡ task
task_back front task rest k e is =
    ap (λ bytes. record { 0 = take 20 bytes }) (back front (task.0 ++ rest) k e)
    ∙ ap (λ bytes. record { 0 = bytes }) (subst (λ n. take n (task.0 ++ rest) ≡ task.0) is.task_length (take-append_seam task.0 rest))

-- ---- ids

pub length-id_bytes : (id : ObjectId) → IsId id → length (id_bytes id) ≡ 28
length-id_bytes id is = omega (arith, is.task_length, length-append id.task.0 (be4 id.job.0), length-append (id.task.0 ++ be4 id.job.0) (be4 id.index))

is_task : (id : ObjectId) → IsId id → IsTask id.task
is_task id is = record { task_length = is.task_length; task_bytes = is.task_bytes }

-- an id's bytes by its parts
by_parts : (id : ObjectId) (rest : List ℕ) → id_bytes id ++ rest ≡ id.task.0 ++ (be4 id.job.0 ++ (be4 id.index ++ rest))
by_parts id rest = append_assoc (id.task.0 ++ be4 id.job.0) (be4 id.index) rest ∙ append_assoc id.task.0 (be4 id.job.0) (be4 id.index ++ rest)

by_index : (id : ObjectId) (rest : List ℕ) → id_bytes id ++ rest ≡ (id.task.0 ++ be4 id.job.0) ++ (be4 id.index ++ rest)
by_index id rest = append_assoc (id.task.0 ++ be4 id.job.0) (be4 id.index) rest

pub id_at-id_bytes : (id : ObjectId) (rest : List ℕ) → IsId id → id_at (id_bytes id ++ rest) ≡ id
id_at-id_bytes id rest is =
    let task : task_at (id_bytes id ++ rest) 0 ≡ id.task = ap (λ b. task_at b 0) (by_parts id rest) ∙ task_back [] id.task (be4 id.job.0 ++ (be4 id.index ++ rest)) 0 refl (is_task id is) in
    let job : number_at (id_bytes id ++ rest) 20 ≡ id.job.0 = ap (λ b. number_at b 20) (by_parts id rest) ∙ number_back id.task.0 id.job.0 (be4 id.index ++ rest) 20 is.task_length is.job_fits in
    let front : length (id.task.0 ++ be4 id.job.0) ≡ 24 = omega (arith, is.task_length, length-append id.task.0 (be4 id.job.0)) in
    let index : number_at (id_bytes id ++ rest) 24 ≡ id.index = ap (λ b. number_at b 24) (by_index id rest) ∙ number_back (id.task.0 ++ be4 id.job.0) id.index rest 24 front is.index_fits in
    λ i. record { task = task i; job = record { 0 = job i }; index = index i }

positive : (n : ℕ) → 1 ≤ n → not (n == 0) ≡ true
positive n h = grind (arith, nat_tests)

is_id-IsId : (id : ObjectId) → IsId id → is_id id ≡ true
is_id-IsId id is = rw (positive id.job.0 is.job_positive, positive id.index is.index_positive)

-- ---- bodies that begin with an id

read_about-written : (kind : CommandKind) (id : ObjectId) (rest : List ℕ) → IsId id → fits_kind kind (id_bytes id ++ rest) ≡ true
    → read_about kind (id_bytes id ++ rest) ≡ Some (said kind id (id_bytes id ++ rest))
read_about-written kind id rest is fit =
    let body = id_bytes id ++ rest in
    let same = id_at-id_bytes id rest is in
    ap (λ b. if b then Some (with_id body (said kind (id_at body) body)) else None) fit
    ∙ ap (λ i. Some (if is_id i then said kind i body else item.BadId)) same
    ∙ ap (λ b. Some (if b then said kind id body else item.BadId)) (is_id-IsId id is)

is_of_length : (bytes : List ℕ) (n : ℕ) → length bytes ≡ n → (length bytes == n) ≡ true
is_of_length bytes n e = grind (arith, nat_tests)

-- an id alone
alone : (kind : CommandKind) (id : ObjectId) → IsId id → fits_kind kind (id_bytes id) ≡ true → read_about kind (id_bytes id) ≡ Some (said kind id (id_bytes id))
alone kind id is fit =
    let nil = append-nil (id_bytes id) in
    subst (λ b. read_about kind b ≡ Some (said kind id b)) nil (read_about-written kind id [] is (ap (fits_kind kind) nil ∙ fit))

alone_fits : (id : ObjectId) → IsId id → (length (id_bytes id) == 28) ≡ true
alone_fits id is = is_of_length (id_bytes id) 28 (length-id_bytes id is)

-- an id and a task
task_after : (id : ObjectId) (task : TaskNo) → IsId id → IsTask task → task_at (id_bytes id ++ task.0) 28 ≡ task
task_after id task is t = ap (λ rest. task_at (id_bytes id ++ rest) 28) (sym (append-nil task.0)) ∙ task_back (id_bytes id) task [] 28 (length-id_bytes id is) t

task_fits : (id : ObjectId) (task : TaskNo) → IsId id → IsTask task → (length (id_bytes id ++ task.0) == 48) ≡ true
task_fits id task is t = is_of_length (id_bytes id ++ task.0) 48 (omega (arith, length-id_bytes id is, t.task_length, length-append (id_bytes id) task.0))

-- an id and a number
number_after : (id : ObjectId) (n : ℕ) (rest : List ℕ) → IsId id → n < 2 ^ 32 → number_at (id_bytes id ++ (be4 n ++ rest)) 28 ≡ n
number_after id n rest is small = number_back (id_bytes id) n rest 28 (length-id_bytes id is) small

number_fits : (id : ObjectId) (n : ℕ) → IsId id → (length (id_bytes id ++ be4 n) == 32) ≡ true
number_fits id n is = is_of_length (id_bytes id ++ be4 n) 32 (omega (arith, length-id_bytes id is, length-append (id_bytes id) (be4 n)))

-- an id and two numbers
abbrev pub two : ObjectId → ℕ → List ℕ → List ℕ
two id offset rest = (id_bytes id ++ be4 offset) ++ rest

two_parts : (id : ObjectId) (offset : ℕ) (rest : List ℕ) → id_bytes id ++ (be4 offset ++ rest) ≡ two id offset rest
two_parts id offset rest = sym (append_assoc (id_bytes id) (be4 offset) rest)

front_of_two : (id : ObjectId) (offset : ℕ) → IsId id → length (id_bytes id ++ be4 offset) ≡ 32
front_of_two id offset is = omega (arith, length-id_bytes id is, length-append (id_bytes id) (be4 offset))

first_of_two : (id : ObjectId) (offset : ℕ) (rest : List ℕ) → IsId id → offset < 2 ^ 32 → number_at (two id offset rest) 28 ≡ offset
first_of_two id offset rest is small = subst (λ b. number_at b 28 ≡ offset) (two_parts id offset rest) (number_after id offset rest is small)

read_about-two : (kind : CommandKind) (id : ObjectId) (offset : ℕ) (rest : List ℕ) → IsId id → fits_kind kind (two id offset rest) ≡ true
    → read_about kind (two id offset rest) ≡ Some (said kind id (two id offset rest))
read_about-two kind id offset rest is fit =
    let parts = two_parts id offset rest in
    subst (λ b. read_about kind b ≡ Some (said kind id b)) parts (read_about-written kind id (be4 offset ++ rest) is (ap (fits_kind kind) parts ∙ fit))

range_fits : (id : ObjectId) (offset n : ℕ) → IsId id → (length (range_body id offset n) == 36) ≡ true
range_fits id offset n is = is_of_length (range_body id offset n) 36 (omega (arith, front_of_two id offset is, length-append (id_bytes id ++ be4 offset) (be4 n)))

second_of_two : (id : ObjectId) (offset n : ℕ) → IsId id → n < 2 ^ 32 → number_at (range_body id offset n) 32 ≡ n
second_of_two id offset n is small = number_back (id_bytes id ++ be4 offset) n [] 32 (front_of_two id offset is) small

bytes_after : (id : ObjectId) (offset : ℕ) (bytes : List ℕ) → IsId id → drop 32 (two id offset bytes) ≡ bytes
bytes_after id offset bytes is = back (id_bytes id ++ be4 offset) bytes 32 (front_of_two id offset is)

write_fits : (id : ObjectId) (offset : ℕ) (bytes : List ℕ) → IsId id → nat_le 32 (length (two id offset bytes)) ≡ true
write_fits id offset bytes is = le-leb 32 (length (two id offset bytes)) (omega (arith, front_of_two id offset is, length-append (id_bytes id ++ be4 offset) bytes))

-- a copy to be made
kind_after : (id : ObjectId) (kind : Kind) (n : ℕ) → IsId id → slice_index (create_body id kind n) 28 ≡ kind_byte kind
kind_after id kind n is = subst (λ k. slice_index (create_body id kind n) k ≡ kind_byte kind) (length-id_bytes id is) (get_or-append_seam (id_bytes id) (kind_byte kind) (be4 n) 0)

pub kind_of-kind_byte : (kind : Kind) → kind_of (kind_byte kind) ≡ kind
kind_of-kind_byte Primary = refl
kind_of-kind_byte Secondary = refl

is_kind_byte : (kind : Kind) → nat_le (kind_byte kind) 1 ≡ true
is_kind_byte Primary = refl
is_kind_byte Secondary = refl

create_fits : (id : ObjectId) (kind : Kind) (n : ℕ) → IsId id → (is_create (create_body id kind n) && (length (create_body id kind n) == 33)) ≡ true
create_fits id kind n is =
    let there : is_create (create_body id kind n) ≡ true = ap (λ b. nat_le b 1) (kind_after id kind n is) ∙ is_kind_byte kind in
    let long : length (create_body id kind n) ≡ 33 = omega (arith, length-id_bytes id is, length-append (id_bytes id) (kind_byte kind ∷ be4 n)) in
    rw (there, is_of_length (create_body id kind n) 33 long)

length_after : (id : ObjectId) (kind : Kind) (n : ℕ) → IsId id → n < 2 ^ 32 → number_at (create_body id kind n) 29 ≡ n
length_after id kind n is small =
    let front = id_bytes id ++ kind_byte kind ∷ [] in
    let long : length front ≡ 29 = omega (arith, length-id_bytes id is, length-append (id_bytes id) (kind_byte kind ∷ [])) in
    ap (λ b. number_at b 29) (sym (append_assoc (id_bytes id) (kind_byte kind ∷ []) (be4 n))) ∙ number_back front n [] 29 long small

kind_read : (id : ObjectId) (kind : Kind) (n : ℕ) → IsId id → kind_of (slice_index (create_body id kind n) 28) ≡ kind
kind_read id kind n is = ap kind_of (kind_after id kind n is) ∙ kind_of-kind_byte kind

-- ---- what is written is read

-- the body of a command is read as that command
pub item_of-command_body : (c : Command (List ℕ)) → IsCommandBytes c → item_of (slice_index (command_body c) 0) (drop 1 (command_body c)) ≡ Some (item.Command c)
item_of-command_body (command.Create id kind n) is =
    item_of-byte_of (frame.Of kinds.Create) (create_body id kind n)
    ∙ read_about-written kinds.Create id (kind_byte kind ∷ be4 n) is.0 (create_fits id kind n is.0)
    ∙ (λ i. Some (item.Command (command.Create id (kind_read id kind n is.0 i) (length_after id kind n is.0 is.1 i))))
item_of-command_body (command.Write id offset bytes) is =
    read_about-two kinds.Write id offset bytes is.0 (write_fits id offset bytes is.0)
    ∙ (λ i. Some (item.Command (command.Write id (first_of_two id offset bytes is.0 is.1 i) (bytes_after id offset bytes is.0 i))))
item_of-command_body (command.Seal id) is = alone kinds.Seal id is (alone_fits id is)
item_of-command_body (command.Get id) is = alone kinds.Get id is (alone_fits id is)
item_of-command_body (command.Read id offset n) is =
    read_about-two kinds.Read id offset (be4 n) is.0 (range_fits id offset n is.0)
    ∙ (λ i. Some (item.Command (command.Read id (first_of_two id offset (be4 n) is.0 is.1 i) (second_of_two id offset n is.0 is.2 i))))
item_of-command_body (command.Release id) is = alone kinds.Release id is (alone_fits id is)
item_of-command_body (command.Unpin id task) is =
    read_about-written kinds.Unpin id task.0 is.0 (task_fits id task is.0 is.1) ∙ ap (λ t. Some (item.Command (command.Unpin id t))) (task_after id task is.0 is.1)
item_of-command_body (command.Borrow id task) is =
    read_about-written kinds.Borrow id task.0 is.0 (task_fits id task is.0 is.1) ∙ ap (λ t. Some (item.Command (command.Borrow id t))) (task_after id task is.0 is.1)
item_of-command_body (command.GiveUp id task) is =
    read_about-written kinds.GiveUp id task.0 is.0 (task_fits id task is.0 is.1) ∙ ap (λ t. Some (item.Command (command.GiveUp id t))) (task_after id task is.0 is.1)
item_of-command_body (command.Delete id) is = alone kinds.Delete id is (alone_fits id is)
item_of-command_body (command.EndTask task) is =
    let body : task_at task.0 0 ≡ task = ap (λ b. task_at b 0) (sym (append-nil task.0)) ∙ task_back [] task [] 0 refl is in
    ap (λ b. if b then Some (item.Command (command.EndTask (task_at task.0 0))) else None) (is_of_length task.0 20 is.task_length)
    ∙ ap (λ t. Some (item.Command (command.EndTask t))) body
item_of-command_body (command.Grant id target) is =
    read_about-written kinds.Grant id (be4 target.0) is.0 (number_fits id target.0 is.0)
    ∙ ap (λ n. Some (item.Command (command.Grant id (record { 0 = n })))) (number_after id target.0 [] is.0 is.1)
item_of-command_body (command.Withdraw id target) is =
    read_about-written kinds.Withdraw id (be4 target.0) is.0 (number_fits id target.0 is.0)
    ∙ ap (λ n. Some (item.Command (command.Withdraw id (record { 0 = n })))) (number_after id target.0 [] is.0 is.1)
item_of-command_body (command.Peek id offset n) is =
    read_about-two kinds.Peek id offset (be4 n) is.0 (range_fits id offset n is.0)
    ∙ (λ i. Some (item.Command (command.Peek id (first_of_two id offset (be4 n) is.0 is.1 i) (second_of_two id offset n is.0 is.2 i))))
item_of-command_body command.List is = refl
item_of-command_body command.Usage is = refl
item_of-command_body command.Leave is = refl

item_of-awaited_body : (c : Awaited) → IsAwaited c → item_of (slice_index (awaited_body c) 0) (drop 1 (awaited_body c)) ≡ Some (item.Wait c)
item_of-awaited_body (awaited.Get id) is = alone kinds.GetWait id is (alone_fits id is)
item_of-awaited_body (awaited.Create id kind n) is =
    item_of-byte_of (frame.Of kinds.CreateWait) (create_body id kind n)
    ∙ read_about-written kinds.CreateWait id (kind_byte kind ∷ be4 n) is.0 (create_fits id kind n is.0)
    ∙ (λ i. Some (item.Wait (awaited.Create id (kind_read id kind n is.0 i) (length_after id kind n is.0 is.1 i))))

item_of-hello : (job : JobNo) (key : JobKey) → job.0 < 2 ^ 32 → length key.0 ≡ 32 → item_of 0x01 (be4 job.0 ++ key.0) ≡ Some (item.Hello job key)
item_of-hello job key small long =
    let body = be4 job.0 ++ key.0 in
    ap (λ b. if b then Some (item.Hello (record { 0 = number_at body 0 }) (record { 0 = drop 4 body })) else None)
    (is_of_length body 36 (omega (arith, length-append (be4 job.0) key.0)))
    ∙ ap (λ n. Some (item.Hello (record { 0 = n }) key)) (from_be_bytes-to_be_bytes_4 job.0 small)

-- ---- frames

-- a frame that is read so stands at the head of the stream
framed : (kind : ℕ) (body : List ℕ) (x : Item) (rest : List ℕ) → is_command_length (suc (length body)) ≡ true → item_of kind body ≡ Some x
    → stream_of (frame_of_body (kind ∷ body) ++ rest) ≡ after_item x (stream_of rest)
framed kind body x rest in_range read =
    let size = suc (length body) in
    let small : size < 2 ^ 32 = omega (arith, leb-true size 65600 (and_parts (nat_le 1 size) (nat_le size 65600) in_range).1) in
    let bytes = frame_of_body (kind ∷ body) ++ rest in
    let one_less : size - 1 ≡ length body = omega arith in
    let taken : take (size - 1) (body ++ rest) ≡ body = ap (λ k. take k (body ++ rest)) one_less ∙ take-append_seam body rest in
    stream_of-head bytes size (Some x) (record {
      number = from_be_bytes-to_be_bytes_4 size small;
      in_range = in_range;
      whole = omega (arith, length-append body rest);
      reads = ap (item_of kind) taken ∙ read;
    })
    ∙ ap (λ b. after_item x (stream_of b)) (back (frame_of_body (kind ∷ body)) rest (4 + size) (omega arith))

command_parts : (c : Command (List ℕ)) → command_body c ≡ slice_index (command_body c) 0 ∷ drop 1 (command_body c)
command_parts (command.Create id kind n) = refl
command_parts (command.Write id offset bytes) = refl
command_parts (command.Seal id) = refl
command_parts (command.Get id) = refl
command_parts (command.Read id offset n) = refl
command_parts (command.Release id) = refl
command_parts (command.Unpin id task) = refl
command_parts (command.Borrow id task) = refl
command_parts (command.GiveUp id task) = refl
command_parts (command.Delete id) = refl
command_parts (command.EndTask task) = refl
command_parts (command.Grant id target) = refl
command_parts (command.Withdraw id target) = refl
command_parts (command.Peek id offset n) = refl
command_parts command.List = refl
command_parts command.Usage = refl
command_parts command.Leave = refl

awaited_parts : (c : Awaited) → awaited_body c ≡ slice_index (awaited_body c) 0 ∷ drop 1 (awaited_body c)
awaited_parts (awaited.Get id) = refl
awaited_parts (awaited.Create id kind n) = refl

in_parts : (body : List ℕ) (x : Item) (rest : List ℕ) → body ≡ slice_index body 0 ∷ drop 1 body → is_command_length (length body) ≡ true
    → item_of (slice_index body 0) (drop 1 body) ≡ Some x → stream_of (frame_of_body body ++ rest) ≡ after_item x (stream_of rest)
in_parts body x rest parts in_range read =
    ap (λ b. stream_of (frame_of_body b ++ rest)) parts
    ∙ framed (slice_index body 0) (drop 1 body) x rest (ap (λ b. is_command_length (length b)) (sym parts) ∙ in_range) read

stream_of-item_frame : (x : Item) (rest : List ℕ) → HasFrame x → stream_of (item_frame x ++ rest) ≡ after_item x (stream_of rest)
stream_of-item_frame (item.Hello job key) rest h = framed 1 (be4 job.0 ++ key.0) (item.Hello job key) rest h.fits (item_of-hello job key h.well.0 h.well.1)
stream_of-item_frame (item.Command c) rest h = in_parts (command_body c) (item.Command c) rest (command_parts c) h.fits (item_of-command_body c h.well)
stream_of-item_frame (item.Wait c) rest h = in_parts (awaited_body c) (item.Wait c) rest (awaited_parts c) h.fits (item_of-awaited_body c h.well)
stream_of-item_frame item.BadId rest h = absurd h.well

-- the frames of items are read as these items, whatever follows
pub stream_of-item_frames : (items : List Item) (rest : List ℕ) → All HasFrame items
    → stream_of (flat_map item_frame items ++ rest) ≡ after_items items (stream_of rest)
stream_of-item_frames [] rest h = refl
stream_of-item_frames (x ∷ xs) rest h =
    ap stream_of (append_assoc (item_frame x) (flat_map item_frame xs) rest)
    ∙ stream_of-item_frame x (flat_map item_frame xs ++ rest) (h 0 x (omega arith))
    ∙ ap (after_item x) (stream_of-item_frames xs rest (λ k d less. h (suc k) d (omega arith)))

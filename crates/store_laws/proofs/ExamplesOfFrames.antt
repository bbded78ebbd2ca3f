-- Worked examples: the bytes of frames, and what a stream of them says.
use Rattle.std.specs.Prelude.{◌≡◌, ℕ, List, [], ◌∷◌, ◌++◌, refl}
use Rattle.obj_id.specs.declared.commands.Kind.TheVariants.{Primary}
use Rattle.obj_id.specs.declared.refusals.Refusal.TheVariants.{BadId, Full}
use Rattle.obj_id.specs.declared.commands.Command.TheVariants.{Create, Seal, Get}
use Rattle.obj_id.specs.declared.commands.Reply.TheVariants as reply
use Rattle.private_store.specs.declared.frames.Item.TheVariants as item
use Rattle.obj_id.specs.Ids.{id_bytes}
use Rattle.private_store.specs.rules.Frames.{clean, mid_frame, malformed, item_frame, reply_frame, replies_bytes, stream_of}
use Rattle.store_laws.proofs.ExampleWords.{zeros, job, object}

-- the id of job 1, task 1, index 1
abbrev first_id : List ℕ
first_id = zeros 19 ++ 1 ∷ 0 ∷ 0 ∷ 0 ∷ 1 ∷ 0 ∷ 0 ∷ 0 ∷ 1 ∷ []

pub id-spelled : id_bytes (object 1 1 1) ≡ first_id
id-spelled = refl

abbrev create_frame : List ℕ
create_frame = 0 ∷ 0 ∷ 0 ∷ 0x22 ∷ 2 ∷ (first_id ++ 0 ∷ 0 ∷ 0 ∷ 0 ∷ 0x14 ∷ [])

pub create-spelled : item_frame (item.Command (Create (object 1 1 1) Primary 20)) ≡ create_frame
create-spelled = refl

abbrev get_frame : List ℕ
get_frame = 0 ∷ 0 ∷ 0 ∷ 0x1d ∷ 5 ∷ first_id

pub get-spelled : item_frame (item.Command (Get (object 1 1 1))) ≡ get_frame
get-spelled = refl

pub placed-spelled : reply_frame (reply.Placed 0 32) ≡ 0 ∷ 0 ∷ 0 ∷ 9 ∷ 0x81 ∷ 0 ∷ 0 ∷ 0 ∷ 0 ∷ 0 ∷ 0 ∷ 0 ∷ 0x20 ∷ []
placed-spelled = refl

pub got-spelled : reply_frame (reply.Got 20) ≡ 0 ∷ 0 ∷ 0 ∷ 5 ∷ 0x82 ∷ 0 ∷ 0 ∷ 0 ∷ 0x14 ∷ []
got-spelled = refl

pub ok-spelled : reply_frame reply.Ok ≡ 0 ∷ 0 ∷ 0 ∷ 1 ∷ 0x80 ∷ []
ok-spelled = refl

pub full-spelled : reply_frame (reply.Refused Full) ≡ 0 ∷ 0 ∷ 0 ∷ 2 ∷ 0x8f ∷ 9 ∷ []
full-spelled = refl

abbrev hello_frame : List ℕ
hello_frame = 0 ∷ 0 ∷ 0 ∷ 0x25 ∷ 1 ∷ 0 ∷ 0 ∷ 0 ∷ 1 ∷ zeros 32

abbrev seal_frame : List ℕ
seal_frame = 0 ∷ 0 ∷ 0 ∷ 0x1d ∷ 4 ∷ first_id

-- a whole session
pub session-read : stream_of (hello_frame ++ (create_frame ++ (seal_frame ++ get_frame)))
    ≡ record {
      items = item.Hello (job 1) (record { 0 = zeros 32 })
          ∷ item.Command (Create (object 1 1 1) Primary 20)
          ∷ item.Command (Seal (object 1 1 1))
          ∷ item.Command (Get (object 1 1 1))
          ∷ [];
      rest = [];
      end = clean;
    }
session-read = refl

-- lengths out of range are faults once their four bytes are there
pub length_none-read : (stream_of (0 ∷ 0 ∷ 0 ∷ 0 ∷ [])).end ≡ malformed
length_none-read = refl

pub length_great-read : (stream_of (255 ∷ 255 ∷ 255 ∷ 255 ∷ [])).end ≡ malformed
length_great-read = refl

pub length_cut-read : (stream_of (0 ∷ 0 ∷ 0 ∷ [])).end ≡ mid_frame
length_cut-read = refl

-- a kind that there isn't, and a copy kind that there isn't
pub kind-read : stream_of (0 ∷ 0 ∷ 0 ∷ 1 ∷ 0x15 ∷ []) ≡ record { items = []; rest = 0 ∷ 0 ∷ 0 ∷ 1 ∷ 0x15 ∷ []; end = malformed }
kind-read = refl

pub copy_kind-read : (stream_of (0 ∷ 0 ∷ 0 ∷ 0x22 ∷ 2 ∷ (first_id ++ 2 ∷ 0 ∷ 0 ∷ 0 ∷ 0x14 ∷ []))).end ≡ malformed
copy_kind-read = refl

-- an id that can't be, in a frame that is well formed
pub bad_id-read : stream_of (0 ∷ 0 ∷ 0 ∷ 0x1d ∷ 5 ∷ zeros 28) ≡ record { items = item.BadId ∷ []; rest = []; end = clean }
bad_id-read = refl

pub replies-spelled : replies_bytes (reply.Ok ∷ reply.Refused BadId ∷ []) ≡ 0 ∷ 0 ∷ 0 ∷ 1 ∷ 0x80 ∷ 0 ∷ 0 ∷ 0 ∷ 2 ∷ 0x8f ∷ 2 ∷ []
replies-spelled = refl

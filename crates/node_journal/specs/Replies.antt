-- Replies as a journal keeps them.
use Rattle.std.specs.Prelude.{ℕ, List, []}
use Rattle.obj_id.specs.declared.commands.Reply.{Reply}
use Rattle.obj_id.specs.declared.commands.Reply.TheVariants as reply
use Rattle.private_store.specs.laws.Answers.{reply_without_payload}

-- a list without its items: they are contents here
abbrev pub unlisted : Reply ℕ → Reply ℕ
unlisted (reply.List own granted) = reply.List [] []
unlisted response = response

-- the reply without its contents
abbrev pub kept_reply : Reply (List ℕ) → Reply ℕ
kept_reply response = unlisted (reply_without_payload response)

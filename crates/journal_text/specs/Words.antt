-- The words of a saved journal.
use Rattle.std.specs.Prelude.{ℕ, List, codes, Bool, true, false}
use Rattle.private_store.specs.declared.inputs.WorkVerdict.{WorkVerdict}
use Rattle.private_store.specs.declared.inputs.WorkVerdict.TheVariants as work
use Rattle.private_store.specs.declared.inputs.ChunkVerdict.{ChunkVerdict}
use Rattle.private_store.specs.declared.inputs.ChunkVerdict.TheVariants as chunk
use Rattle.journal_text.specs.declared.words.InputWord.{InputWord}
use Rattle.journal_text.specs.declared.words.InputWord.TheVariants as word
use Rattle.journal_text.specs.declared.words.ReplyWord.{ReplyWord}
use Rattle.journal_text.specs.declared.words.ReplyWord.TheVariants as reply

-- what an input begins with, unless it is a session's
abbrev pub input_word_text : InputWord → List ℕ
input_word_text word.Begin = codes "begin"
input_word_text word.Quota = codes "quota"
input_word_text word.End = codes "end"
input_word_text word.Answer = codes "answer"
input_word_text word.Located = codes "located"
input_word_text word.Chunk = codes "chunk"
input_word_text word.Pull = codes "pull"
input_word_text word.NotHere = codes "nothere"
input_word_text word.Received = codes "received"
input_word_text word.Withdrawn = codes "withdrawn"

-- what an answer begins with
abbrev pub reply_word_text : ReplyWord → List ℕ
reply_word_text reply.Ok = codes "ok"
reply_word_text reply.Placed = codes "placed"
reply_word_text reply.Got = codes "got"
reply_word_text reply.Bytes = codes "bytes"
reply_word_text reply.List = codes "list"
reply_word_text reply.Usage = codes "usage"
reply_word_text reply.Refused = codes "refused"

-- ---- judged words

abbrev pub work_verdict_text : WorkVerdict → List ℕ
work_verdict_text work.Fine = codes "ok"
work_verdict_text work.Failed = codes "fail"
work_verdict_text work.Damaged = codes "damage"

abbrev pub chunk_verdict_text : ChunkVerdict → List ℕ
chunk_verdict_text chunk.Part = codes "part"
chunk_verdict_text chunk.Whole = codes "whole"
chunk_verdict_text chunk.Damaged = codes "damaged"
chunk_verdict_text chunk.Ignored = codes "ignored"

abbrev pub match_text : Bool → List ℕ
match_text true = codes "match"
match_text false = codes "other"

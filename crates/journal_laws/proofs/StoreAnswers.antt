-- What a store answers to one input: nothing that only a device worker is told, and `Stale` before its job began.
use Rattle.std.proofs.Common.{◌≡◌, ℕ, Bool, true, false, List, [], All, refl, ap}
use Rattle.obj_id.specs.declared.ids.ObjectId.{ObjectId}
use Rattle.obj_id.specs.declared.commands.Reply.{Reply}
use Rattle.obj_id.specs.declared.commands.Reply.TheVariants as reply
use Rattle.obj_id.specs.declared.refusals.Refusal.TheVariants.{Stale}
use Rattle.private_store.specs.declared.inputs.Judged.{Judged}
use Rattle.private_store.specs.declared.inputs.Judged.TheVariants as judged
use Rattle.private_store.specs.rules.Commands.{granted_items}
use Rattle.private_store.specs.rules.Events.{work_of}
use Rattle.private_store.specs.laws.Made.{Response, response_ok, response_placed, response_got, response_bytes, response_list, response_usage, response_refused}
use Rattle.private_store.specs.rules.Replay.{replay_step, unbegun_replay}
use Rattle.private_store.specs.rules.Shape.{Change, Shape, unbegun}
use Rattle.private_store.specs.rules.Step.{step}
use Rattle.store_facts.proofs.Checks.{checked-true, needing-none}
use Rattle.store_facts.proofs.EachStep.{step_made}
use Rattle.journal_text.specs.Typed.{IsProperReply}
use Rattle.journal_laws.proofs.GoodGrants.{IsDeep}

told_proper : (x : Judged) (store : Shape) (r : Reply ℕ) → All IsDeep (granted_items store) → Response x store r → IsProperReply r
told_proper x store r deep response_ok = tt
told_proper x store r deep (response_placed offset n) = tt
told_proper x store r deep (response_got id copy e) = tt
told_proper x store r deep (response_bytes n b) = tt
told_proper x store r deep response_list = deep
told_proper x store r deep response_usage = tt
told_proper x store r deep (response_refused refusal w) = tt

pub answer_proper : (order : List ObjectId) (store : Shape) (x : Judged) → All IsDeep (granted_items store) → IsProperReply (step order store x).reply
answer_proper order store x deep = told_proper x store (step order store x).reply deep (step_made order store x).response

-- ---- a store that has not begun

-- whether the input is of a live job alone, and is no command
abbrev pub is_of_live : Judged → Bool
is_of_live (judged.Begin quota) = false
is_of_live (judged.Call session c) = false
is_of_live (judged.Received id n grantor depth) = false
is_of_live (judged.Withdrawn id grantor depth) = false
is_of_live _ = true

pub early_stale : (job : ℕ) (y : Judged) → is_of_live y ≡ true → (replay_step (unbegun_replay job) y).reply ≡ reply.Refused Stale
early_stale job (judged.Requota quota) e = ap (λ (c : Change). c.reply) (checked-true (unbegun job) true Stale [] _ refl)
early_stale job (judged.Answer number verdict) e = ap (λ (c : Change). c.reply) (needing-none (unbegun job) (work_of (unbegun job) number) Stale _ refl)
early_stale job (judged.Located id number source) e = ap (λ (c : Change). c.reply) (checked-true (unbegun job) true Stale [] _ refl)
early_stale job (judged.Chunk id number index from verdict) e = ap (λ (c : Change). c.reply) (checked-true (unbegun job) true Stale [] _ refl)
early_stale job (judged.Pull id number matched) e = ap (λ (c : Change). c.reply) (checked-true (unbegun job) true Stale [] _ refl)
early_stale job (judged.NotHere id number from) e = ap (λ (c : Change). c.reply) (checked-true (unbegun job) true Stale [] _ refl)
early_stale job judged.End e = ap (λ (c : Change). c.reply) (checked-true (unbegun job) true Stale [] _ refl)
early_stale job (judged.Begin quota) e = absurd cc
early_stale job (judged.Call session c) e = absurd cc
early_stale job (judged.Received id n grantor depth) e = absurd cc
early_stale job (judged.Withdrawn id grantor depth) e = absurd cc

use Rattle.std.proofs.Common.{ap, ◌∙◌, ok_or}
use Rattle.obj_id.specs.Texts.{IsOtherText, IsOwnText}
use Rattle.obj_id.specs.declared.refusals.Refusal.TheVariants.{BadId}
use Rattle.obj_id.proofs.ShortTexts.{split-short_text}
use Rattle.obj_id.proofs.ids.ObjectId.read_short.Goals as goal
use Rattle.obj_id.proofs.ids.ObjectId.read_short.Goals.{in-None, in-Some}

pub returns-clause-read : goal.returns-clause-read
returns-clause-read c id is text =
    let parts = split-short_text c.args.job id c.args.text.now c.split_once.result is text c.split_once.ensures.cases in
    elim c.match-split_once.branch [
      | in-None w ↦
          let own : IsOwnText c.args.job id c.args.text.now = rw w.in-None.is at parts in
          c.ok_or.ensures.value ∙ ap (λ o. ok_or o BadId) (w.id-is ∙ w.read_own-id.ensures.read id is own)
      | in-Some w ↦
          let other : IsOtherText c.args.job id w.in-Some.owner.now w.in-Some.name.now = rw w.in-Some.is at parts in
          c.ok_or.ensures.value ∙ ap (λ o. ok_or o BadId) (w.id-is ∙ w.read_other-id.ensures.read id is other)
    ]

use Rattle.std.proofs.Common.{rules, ◌≡◌}
use Rattle.std.proofs.lemmas.List.{append_assoc}
use Rattle.std.specs.String.{string_bytes}
use Rattle.obj_id.specs.Texts.{id_text}
use Rattle.journal_text.proofs.printing.first_grant.Goals as goal

pub returns : goal.returns
returns c =
    let id : string_bytes c.in_ok-id.id ≡ id_text c.args.job.0 c.args.item.now.id = c.in_ok-id.ensures in
    rw (← id) (simp append_assoc (search rules))

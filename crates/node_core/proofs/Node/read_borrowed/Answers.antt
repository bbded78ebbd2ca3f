use Rattle.std.proofs.Common.{◌≡◌, Some, sym, ap, subst, ◌∙◌}
use Rattle.std.specs.Prelude.{IfOk, IfErr}
use Rattle.std.specs.Option.{option_copied}
use Rattle.std.proofs.lemmas.Bool.{eq-eqb}
use Rattle.obj_id.specs.declared.ids.JobNo.{JobNo}
use Rattle.private_store.specs.rules.Contents.{View}
use Rattle.node_core.specs.Hosted.{Shows}
use Rattle.node_core.specs.Borrowed.{borrowed_check, IsBorrowed}
use Rattle.node_core.proofs.Calling.{if_ok, if_err}
use Rattle.node_core.proofs.Asking.{own_check, lent_bytes}
use Rattle.node_core.proofs.Node.read_borrowed.Goals as goal

pub returns-clause-ok : goal.returns-clause-ok
returns-clause-ok c =
    let found = sym c.get.ensures.value ∙ ap option_copied c.in-Some.is in
    let mine = eq-eqb _ _ (ap (λ (j : JobNo). j.0) (sym c.job.ensures.value) ∙ c.if-job.false) in
    subst (λ node. IfOk c.lend.result (λ bytes. (view : View) → Shows node c.args.job.0 view → IsBorrowed view c.args.session c.args.id.now bytes.now)) c.self.view_is
    (if_ok c.lend.result c.lend.ensures.ok (λ bytes lent view h. lent_bytes _ c.args.job c.in-Some.row.now found view h c.args.session c.args.id.now bytes.now mine lent))

pub returns-clause-refused : goal.returns-clause-refused
returns-clause-refused c =
    let found = sym c.get.ensures.value ∙ ap option_copied c.in-Some.is in
    let mine = eq-eqb _ _ (ap (λ (j : JobNo). j.0) (sym c.job.ensures.value) ∙ c.if-job.false) in
    subst (λ node. IfErr c.lend.result (λ refusal. (view : View) → Shows node c.args.job.0 view → borrowed_check view.shape c.args.session c.args.id.now ≡ Some refusal)) c.self.view_is
    (if_err c.lend.result c.lend.ensures.refused (λ refusal is view h. own_check _ c.args.job c.in-Some.row.now found view h c.args.session c.args.id.now mine ∙ is))

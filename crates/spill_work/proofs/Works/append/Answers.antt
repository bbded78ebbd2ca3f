use Rattle.std.proofs.Common.{◌≡◌, ◌+◌, ◌++◌, length, Some, sym, ap, subst, ◌∙◌}
use Rattle.std.specs.Prelude.{unwrap_or}
use Rattle.std.specs.Map.{lookup}
use Rattle.indexmap.specs.IndexMap.{insert_entry}
use Rattle.spill_work.specs.Line.{WorkLine, same_work_job, AsksAll, used_by, numbered}
use Rattle.spill_work.specs.Numbers.{AreWorksNumbered, last_number_of}
use Rattle.spill_work.proofs.Counted.{more_kept, from_ok}
use Rattle.spill_work.proofs.LineLemmas.{asks_all}
use Rattle.spill_work.proofs.Works.append.Goals as goal

pub invariant_of-self-2 : goal.invariant_of-self-2
invariant_of-self-2 c =
    let job = c.args.job in
    let ids = c.args.ids.now in
    let old = c.self.inside.used.entries in
    let new = c.insert.new.self.entries in
    let updates = from_ok c.insert.result c.unwrap.result c.unwrap.ensures c.insert.ensures.updates in
    let last : c.asked-last.result ≡ last_number_of old job = c.asked-last.ensures.last ∙ ap (λ line. used_by line job) (sym c.self.view_is) in
    subst (λ works. AreWorksNumbered works new) (sym (c.in_ok-ask.ensures.ok ∙ ap (λ n. c.self.inside.line ++ numbered job c.args.kind n ids) last))
    (more_kept job c.args.kind c.self.inside.line old new ids c.self.invariant
    (updates.1 ∙ ap (λ n. Some (n + length ids)) last) c.requires.some
    (λ other apart. updates.2 other apart ∙ ap (lookup (same_work_job other)) c.reserve.ensures.entries))

pub returns-clause-ok : goal.returns-clause-ok
returns-clause-ok c =
    let old : WorkLine = record { works = c.self.inside.line; used = c.self.inside.used.entries } in
    let new : WorkLine = record { works = c.ask.new.self; used = c.insert.new.self.entries } in
    let updates = from_ok c.insert.result c.unwrap.result c.unwrap.ensures c.insert.ensures.updates in
    let last : c.asked-last.result ≡ used_by old c.args.job = c.asked-last.ensures.last ∙ ap (λ line. used_by line c.args.job) (sym c.self.view_is) in
    subst (λ line. AsksAll line c.args.job c.args.kind c.args.ids.now new) c.self.view_is
    (asks_all c.args.job c.args.kind old new c.args.ids.now
    (c.in_ok-ask.ensures.ok ∙ ap (λ n. old.works ++ numbered c.args.job c.args.kind n c.args.ids.now) last)
    (ap (λ o. unwrap_or o 0) updates.1 ∙ ap (λ n. n + length c.args.ids.now) last)
    (λ other apart. ap (λ o. unwrap_or o 0) (updates.2 other apart) ∙ ap (λ used. last_number_of used other) c.reserve.ensures.entries))

pub returns-clause-used : goal.returns-clause-used
returns-clause-used c =
    let entries = from_ok c.insert.result c.unwrap.result c.unwrap.ensures c.insert.ensures.entries in
    entries ∙ (λ i. insert_entry same_work_job ((c.reserve.ensures.entries ∙ ap (λ line. line.used) c.self.view_is) i) c.args.job (c.asked-last.ensures.last i + length c.args.ids.now))

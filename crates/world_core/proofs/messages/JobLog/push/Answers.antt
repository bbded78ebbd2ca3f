use Rattle.std.proofs.Common.{◌≡◌, ◌++◌, [], ◌∷◌, sym, ap, ◌∙◌, arith}
use Rattle.world_core.specs.Logs.{count_over, sent_in, AreNumbered}
use Rattle.world_core.proofs.Numbering.{count_within, after_put}
use Rattle.world_core.proofs.messages.JobLog.push.Goals as goal

pub prove-unreachable-requires : goal.prove-unreachable-requires
prove-unreachable-requires c =
    let within = count_within c.self.inside.messages.entries c.args.link.from c.args.link.to in
    let is : c.count-count.result ≡ count_over (sent_in c.self.inside.messages.entries) c.args.link.from c.args.link.to = c.count-count.ensures ∙ sym (ap (λ l. count_over l.sent c.args.link.from c.args.link.to) c.self.view_is) in
    let len = c.len.ensures.len in
    let less = c.if-prove.true in
    omega (arith, within, is, len, less)

-- the maps afterwards
put : (c : goal.Joined-unwrap) → AreNumbered c.insert-2.new.table.entries c.insert.new.table.entries
    × (sent_in c.insert-2.new.table.entries ≡ sent_in c.self.inside.messages.entries ++ record { from = c.args.link.from; to = c.args.link.to; message = c.args.message } ∷ [])
put c =
    let counted = rw c.unwrap.ensures at c.insert.ensures.updates in
    let entries = rw c.unwrap-2.ensures at c.insert-2.ensures.entries in
    let found = rw c.unwrap-2.ensures at c.insert-2.ensures.updates in
    after_put c.self.inside.messages.entries c.self.inside.counts.entries c.self.invariant c.args.link c.args.message c.count-count.result
    (c.count-count.ensures ∙ sym (ap (λ l. count_over l.sent c.args.link.from c.args.link.to) c.self.view_is))
    c.insert-2.new.table.entries c.insert.new.table.entries (entries, found.0, counted.0)

pub invariant_of-self : goal.invariant_of-self
invariant_of-self c = (put c).0

pub returns-clause-sent : goal.returns-clause-sent
returns-clause-sent c = (put c).1 ∙ ap (λ l. l.sent ++ record { from = c.args.link.from; to = c.args.link.to; message = c.args.message } ∷ []) c.self.view_is

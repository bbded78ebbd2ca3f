-- The store that a job's journal begins with: inputs lead to it, also after a fold.
use Rattle.std.proofs.Common.{◌≡◌, ℕ, Bool, true, false, ◌++◌, sym, ap, subst, ◌∙◌}
use Rattle.private_store.specs.rules.Replay.{replayed, unbegun_replay}
use Rattle.node_journal.specs.Journals.{AreDue, IsRooted, Journal, base_after, folded_if, lines_of}
use Rattle.node_journal.proofs.Lists.{due-append, replayed-append}

-- the lines of the journal are of the past
pub rooted_after : (job : ℕ) (j : Journal) → AreDue j.base.store (lines_of j.list) → IsRooted job j.base.store → IsRooted job (base_after j).store
rooted_after job j due r = record {
  past = r.past ++ lines_of j.list;
  leads = ap (λ s. replayed s (lines_of j.list)) r.leads ∙ sym (replayed-append (unbegun_replay job) r.past (lines_of j.list));
  due = due-append (unbegun_replay job) r.past (lines_of j.list) r.due (subst (λ s. AreDue s (lines_of j.list)) r.leads due);
}

pub folded_rooted : (job : ℕ) (full : Bool) (j : Journal) → AreDue j.base.store (lines_of j.list) → IsRooted job j.base.store → IsRooted job (folded_if full j).base.store
folded_rooted job true j due r = rooted_after job j due r
folded_rooted job false j due r = r

-- of another journal that is the same, or has the same base
pub rooted_alike : (job : ℕ) (before after : Journal) → after.base ≡ before.base → IsRooted job before.base.store → IsRooted job after.base.store
rooted_alike job before after same r = subst (λ base. IsRooted job base.store) (sym same) r

use Rattle.std.proofs.Common.{◌≡◌, Some, sym, subst}
use Rattle.std.specs.Map.{lookup}
use Rattle.private_store.specs.rules.Jobs.{same_job}
use Rattle.node_journal.proofs.Logging.{place_found, same_numbers, stands_at}
use Rattle.node_journal.proofs.logs.Logs.place_of.Goals as goal

pub returns-in-Some-clause-stands : goal.returns-in-Some-clause-stands
returns-in-Some-clause-stands c =
    let entries = c.self.inside.logs.entries in
    let own = c.in-Some.own.now in
    let log = c.in-Some.field-0-1.now in
    let same = same_numbers own c.args.job c.if-own-job.true in
    stands_at entries c.args.self.now c.args.job own c.self.inside.latest log c.self.view_is (sym same) (sym c.in-Some.ensures.entry) (subst (λ job. lookup (same_job job) entries ≡ Some log) same c.in-Some.ensures.value)

pub returns-in_ok-place-in_default-clause-stands : goal.returns-in_ok-place-in_default-clause-stands
returns-in_ok-place-in_default-clause-stands c =
    let found = c.in_ok-place-in_default.ensures in
    let entries = c.self.inside.logs.entries in
    stands_at entries c.args.self.now c.args.job _ c.in_ok-place-in_default.place _ c.self.view_is (place_found c.args.job _ entries _ _ (sym found.index) found.entry) found.entry (sym found.value)

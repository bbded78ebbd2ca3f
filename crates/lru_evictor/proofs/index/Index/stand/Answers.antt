use Rattle.std.proofs.Common.{ap, subst}
use Rattle.lru_evictor.specs.Indexed.{Stands}
use Rattle.lru_evictor.proofs.index.Index.stand.Goals as goal

pub returns-clause-stands : goal.returns-clause-stands
returns-clause-stands c = subst (λ xs. Stands c.args.before c.args.after xs c.stand.new.residents) (ap (λ p. p.2) c.self.view_is) c.stand.ensures

use Rattle.run_laws.proofs.Agreeing.{others_dont_show, others_dont_show_where_due}
use Rattle.run_laws.proofs.grant_laws.others_grants_dont_show.Goals as goal

pub returns-clause-any : goal.returns-clause-any
returns-clause-any c = others_dont_show

pub returns-clause-due : goal.returns-clause-due
returns-clause-due c = others_dont_show_where_due

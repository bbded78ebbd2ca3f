use Rattle.run_laws.proofs.HeldOnTo.{holds_on}
use Rattle.run_laws.proofs.ShownBytes.{shows_what_is, granted_bytes_stay}
use Rattle.run_laws.proofs.grant_laws.a_grant_holds_on_to_its_object.Goals as goal

pub returns-clause-held : goal.returns-clause-held
returns-clause-held c = holds_on

pub returns-clause-shown : goal.returns-clause-shown
returns-clause-shown c = shows_what_is

pub returns-clause-stay : goal.returns-clause-stay
returns-clause-stay c = granted_bytes_stay

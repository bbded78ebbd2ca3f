use Rattle.store_laws.proofs.Completing.{completed_digest, completed_bytes}
use Rattle.store_laws.proofs.completed_copies_have_the_sealed_bytes.Goals as goal

pub returns-clause-digest : goal.returns-clause-digest
returns-clause-digest c = completed_digest

pub returns-clause-bytes : goal.returns-clause-bytes
returns-clause-bytes c = completed_bytes

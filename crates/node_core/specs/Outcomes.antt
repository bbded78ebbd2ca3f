-- What an event gives, as the private steps have it.
use Rattle.std.specs.Prelude.{ℕ, List, [], ◌∷◌, map}
use Rattle.private_store.specs.declared.inputs.Judged.TheVariants as judged
use Rattle.private_store.specs.rules.Grants.{StandingGrant}
use Rattle.row_steps.specs.Erased.{keys_of}
use Rattle.row_steps.specs.Shown.{RowGiven}
use Rattle.node_core.specs.declared.outcome.Note.{Note}
use Rattle.node_core.specs.declared.outcome.NodeOutcome.{NodeOutcome}
use Rattle.node_core.specs.Steps.{NodeGiven, JobJudged}

-- notes, as inputs of their jobs
abbrev pub input_noted : Note → JobJudged
input_noted note = record { job = note.job.0; input = note.input }

abbrev pub inputs_noted : List Note → List JobJudged
inputs_noted notes = map input_noted notes

-- what the end of a grant is to its grantee
abbrev pub end_noted : StandingGrant → JobJudged
end_noted grant = record { job = grant.grantee; input = judged.Withdrawn grant.id (record { 0 = grant.grantor }) grant.depth }

-- what a grant of an object of this length is to its grantee
abbrev pub received_noted : StandingGrant → ℕ → JobJudged
received_noted grant n = record { job = grant.grantee; input = judged.Received grant.id n (record { 0 = grant.grantor }) grant.depth }

abbrev pub node_given_of : NodeOutcome → NodeGiven
node_given_of o =
    record {
      reply = o.reply;
      posts = o.messages;
      erased = keys_of o.erase;
      notes = inputs_noted o.notes;
    }

-- what a row gave, where no grant changed
abbrev pub with_no_notes : RowGiven → NodeGiven
with_no_notes given = record { reply = given.reply; posts = given.posts; erased = given.erased; notes = [] }

-- where this grant of an object of this length was given
abbrev pub with_given : RowGiven → StandingGrant → ℕ → NodeGiven
with_given given grant n = record { reply = given.reply; posts = given.posts; erased = given.erased; notes = received_noted grant n ∷ [] }

-- where these grants ended
abbrev pub with_ends : RowGiven → List StandingGrant → NodeGiven
with_ends given ended = record { reply = given.reply; posts = given.posts; erased = given.erased; notes = map end_noted ended }

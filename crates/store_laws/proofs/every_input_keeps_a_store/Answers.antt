use Rattle.store_laws.proofs.NumbersRise.{numbers_rise}
use Rattle.store_facts.proofs.ReplayStateKept.{unbegun_replay_kept, step_of_replay_keeps, replay_keeps, run_keeps_replay}
use Rattle.store_facts.proofs.StepsKept.{no_store_kept, view_keeps, run_keeps}
use Rattle.store_laws.proofs.every_input_keeps_a_store.Goals as goal

pub returns-clause-begins : goal.returns-clause-begins
returns-clause-begins c = no_store_kept

pub returns-clause-each : goal.returns-clause-each
returns-clause-each c = view_keeps

pub returns-clause-runs : goal.returns-clause-runs
returns-clause-runs c = run_keeps

pub returns-clause-numbers : goal.returns-clause-numbers
returns-clause-numbers c = numbers_rise

pub returns-clause-begins_replay : goal.returns-clause-begins_replay
returns-clause-begins_replay c = unbegun_replay_kept

pub returns-clause-each_judged : goal.returns-clause-each_judged
returns-clause-each_judged c = step_of_replay_keeps

pub returns-clause-replays : goal.returns-clause-replays
returns-clause-replays c = replay_keeps

pub returns-clause-runs_replay : goal.returns-clause-runs_replay
returns-clause-runs_replay c = run_keeps_replay

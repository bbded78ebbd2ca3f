use Rattle.std.proofs.Common.{◌==◌, ◌++◌, if◌then◌else◌, refl, ap, ◌∙◌}
use Rattle.obj_id.specs.declared.messages.Endpoint.TheVariants.{Node}
use Rattle.private_store.specs.declared.schedules.NodeEvent.TheVariants.{Arrive}
use Rattle.private_store.specs.rules.Cluster.{posted}
use Rattle.node_core.specs.MemoryLast.{IsMemoryLast}
use Rattle.node_core.specs.Outcomes.{node_given_of}
use Rattle.world_core.specs.Logs.{sent_of}
use Rattle.world_core.specs.Worlds.{Hosting}
use Rattle.world_core.specs.contracts.World.{the_view}
use Rattle.world_core.proofs.AtPlace.{always_err, found_at, of_found, nodes_with}
use Rattle.world_core.proofs.World.arrive.Goals as goal

pub returns-in_err-outcome-clause-memory_last : goal.returns-in_err-outcome-clause-memory_last
returns-in_err-outcome-clause-memory_last c =
    always_err c.from_residual.result (of_found (the_view c.self.inside) c.args.self.now c.self.view_is c.args.place c.index_mut.result.now c.requires c.index_mut.ensures.value
    (λ node. IsMemoryLast node (Arrive c.args.job c.args.arrival.now)) c.in_err-outcome.ensures.memory_last)

pub returns-clause-ok : goal.returns-clause-ok
returns-clause-ok c =
    let sent = c.reserve-room.ensures.sent ∙ ap (λ (w : Hosting). w.messages) c.self.view_is in
    record {
      before = c.index_mut.result.now;
      given = node_given_of c.in_ok-outcome.outcome;
      after = c.arrive.new.self;
      found = found_at (the_view c.self.inside) c.args.self.now c.self.view_is c.args.place c.index_mut.result.now c.requires c.index_mut.ensures.value;
      steps = c.in_ok-outcome.ensures.ok;
      reply = refl;
      nodes = nodes_with (the_view c.self.inside) c.args.self.now c.self.view_is c.args.place c.index_mut.result.now c.requires c.index_mut.ensures.value c.arrive.new.self;
      tables = ap (λ (w : Hosting). w.tables) c.self.view_is;
      sent = λ other. c.add.ensures other ∙ (λ i. if c.args.job.0 == other then sent_of (sent i) other ++ posted (Node c.args.place) c.in_ok-outcome.outcome.messages else sent_of (sent i) other);
    }

pub returns-clause-kept : goal.returns-clause-kept
returns-clause-kept c =
    record {
      before = c.index_mut.result.now;
      given = node_given_of c.in_ok-outcome.outcome;
      after = c.arrive.new.self;
      found = found_at (the_view c.self.inside) c.args.self.now c.self.view_is c.args.place c.index_mut.result.now c.requires c.index_mut.ensures.value;
      steps = c.in_ok-outcome.ensures.ok;
      nodes = nodes_with (the_view c.self.inside) c.args.self.now c.self.view_is c.args.place c.index_mut.result.now c.requires c.index_mut.ensures.value c.arrive.new.self;
      stale = c.in_ok-outcome.ensures.stale;
      reply = refl;
      judged = c.in_ok-outcome.ensures.judged;
      notes = c.in_ok-outcome.ensures.silent;
    }

use Rattle.std.proofs.Common.{true, None, refl}
use Rattle.model_undo.specs.declared.call.Call.TheVariants.{Stop}
use Rattle.undo_core.proofs.Calling.{refused, made, no_stop, stop_turn, rests_does}
use Rattle.undo_core.proofs.manager.Manager.stop.Goals as goal

pub returns-in_default : goal.returns-in_default
returns-in_default c names s shows =
    refused names Stop _ s _ shows
    (no_stop names s.machine c.phase.result (c.phase.ensures names c.args.self.now.steps c.args.self.now.undo.requests c.args.self.now.replies s.machine.stage shows.stage) c.in_default.not-Getting c.in_default.not-Setting)

pub returns-in-Getting : goal.returns-in-Getting
returns-in-Getting c names s shows =
    made names Stop _ s None _
    (stop_turn names s.machine c.phase.result (c.phase.ensures names c.args.self.now.steps c.args.self.now.undo.requests c.args.self.now.replies s.machine.stage shows.stage) c.in-Getting.is)
    (rests_does names _ s (record s.machine { stopped = true })
    (record {
      named = shows.named;
      is_named = shows.is_named;
      listed = shows.listed;
      plan = shows.plan;
      retries = shows.retries;
      stage = shows.stage;
      stopped = refl;
      resent = shows.resent;
      undo = shows.undo;
      counts = shows.counts;
      sequence = shows.sequence;
      instance = shows.instance;
      joined = shows.joined;
    }))

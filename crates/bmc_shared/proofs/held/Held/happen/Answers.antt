use Rattle.std.proofs.Common.{rules, ◌≡◌, ◌∷◌, [], ◌++◌, List, Result, subst, sym, ap}
use Rattle.cfg_records.specs.declared.board_file.BoardFile.{BoardFile}
use Rattle.bmc_board.specs.State.{State, state_of}
use Rattle.bmc_board.specs.Sensing.{bench_of}
use Rattle.bmc_board.specs.declared.bench.NoSensor.{NoSensor}
use Rattle.bmc_shared.specs.declared.event.Event.{Event}
use Rattle.bmc_shared.specs.declared.event.Call.TheVariants.{Benched}
use Rattle.bmc_shared.specs.Replay.{IsReplay}
use Rattle.bmc_shared.proofs.Replaying.{goes_on_to}
use Rattle.bmc_shared.proofs.held.Held.happen.Goals as goal

pub invariant_of-self-clause-replays : goal.invariant_of-self-clause-replays
invariant_of-self-clause-replays g c =
    let old = c.args.self.now in
    let event : Event = record { seat = c.args.port; call = Benched c.args.bench.now c.bench-answered.result } in
    let pushed : c.gain_bench.new.self.items ≡ old.history.items ++ event ∷ [] = search rules in
    let before : State = state_of old.board in
    let after : State = state_of c.bench-answered.new.self in
    let is : (let given : Result (Unit {0}) NoSensor × State = (c.bench-answered.result, after) in given) ≡ bench_of g.J.Opening.setup before c.args.bench.now =
    subst (λ (setup : BoardFile). (let given : Result (Unit {0}) NoSensor × State = (c.bench-answered.result, after) in given) ≡ bench_of setup before c.args.bench.now) old.setup c.bench-answered.ensures.happens in
    subst (λ (events : List Event). IsReplay g.J.Opening.setup g.J.Opening.opening events after) (sym pushed)
    (goes_on_to g.J.Opening.setup g.J.Opening.opening old.history.items before after event old.replays (ap (λ (given : Result (Unit {0}) NoSensor × State). given.0) (sym is)) (ap (λ (given : Result (Unit {0}) NoSensor × State). given.1) (sym is)))

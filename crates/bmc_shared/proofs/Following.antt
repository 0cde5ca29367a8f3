-- Histories by the command relation.
use Rattle.std.proofs.Common.{◌≡◌, List, [], ◌∷◌, Result, sym, ap, subst}
use Rattle.record_base.specs.declared.message.Answered.{Answered}
use Rattle.cfg_records.specs.declared.board_file.BoardFile.{BoardFile}
use Rattle.bmc_board.specs.State.{State}
use Rattle.bmc_board.specs.Answer.{AnswerAndState, answer_of}
use Rattle.bmc_board.specs.Row.{Row}
use Rattle.bmc_board.specs.Sensing.{bench_of}
use Rattle.bmc_board.specs.declared.bench.NoSensor.{NoSensor}
use Rattle.bmc_board.proofs.OneAnswer.{has_answer, has_one_answer}
use Rattle.bmc_shared.specs.declared.event.Call.{Call}
use Rattle.bmc_shared.specs.declared.event.Call.TheVariants.{Exchanged, Benched}
use Rattle.bmc_shared.specs.declared.event.Event.{Event}
use Rattle.bmc_shared.specs.Replay.{IsReplay, IsAnsweredCall, after_call}
use Rattle.bmc_shared.specs.Follows.{CallStep, FollowsEvents, ReplaysByRelation}

steps : (setup : BoardFile) (before : State) (call : Call) → IsAnsweredCall setup before call → CallStep setup before call (after_call setup before call)
steps setup before (Exchanged asked answered) is = subst (λ (a : Answered). Row setup before asked a (answer_of setup before asked).1) is (has_answer setup before asked)
steps setup before (Benched bench answered) is = λ i. (sym is i, (bench_of setup before bench).1)

is_answered : (setup : BoardFile) (before : State) (call : Call) (after : State) → CallStep setup before call after → IsAnsweredCall setup before call
is_answered setup before (Exchanged asked answered) after row = sym (ap (λ (g : AnswerAndState). g.0) (has_one_answer setup before asked answered after row))
is_answered setup before (Benched bench answered) after is = sym (ap (λ (h : Result (Unit {0}) NoSensor × State). h.0) is)

leaves : (setup : BoardFile) (before : State) (call : Call) (after : State) → CallStep setup before call after → after ≡ after_call setup before call
leaves setup before (Exchanged asked answered) after row = ap (λ (g : AnswerAndState). g.1) (has_one_answer setup before asked answered after row)
leaves setup before (Benched bench answered) after is = ap (λ (h : Result (Unit {0}) NoSensor × State). h.1) is

follows : (setup : BoardFile) (first : State) (events : List Event) (last : State) → IsReplay setup first events last → FollowsEvents setup first events last
follows setup first [] last run = run
follows setup first (event ∷ later) last run = (after_call setup first event.call, steps setup first event.call run.0, follows setup (after_call setup first event.call) later last run.1)

replays : (setup : BoardFile) (first : State) (events : List Event) (last : State) → FollowsEvents setup first events last → IsReplay setup first events last
replays setup first [] last run = run
replays setup first (event ∷ later) last run = (
  is_answered setup first event.call run.0 run.1,
  subst (λ (s : State). IsReplay setup s later last) (leaves setup first event.call run.0 run.1) (replays setup run.0 later last run.2),
)

pub replays_by_relation : ReplaysByRelation
replays_by_relation setup first events last = (follows setup first events last, replays setup first events last)

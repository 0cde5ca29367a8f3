-- Each answer of the board may happen on a bus.
use Rattle.std.proofs.Common.{◌≡◌, ℕ, List, [], Option, Some, None, refl, sym, subst, lit<}
use Rattle.two_wire.specs.declared.Bus.{Bus}
use Rattle.two_wire.specs.declared.Bus.TheVariants.{Smbus}
use Rattle.cfg_records.specs.declared.board_file.BoardFile.{BoardFile}
use Rattle.record_kinds.specs.Stagings.{StagedParts}
use Rattle.record_kinds.specs.declared.limits.Limits.{Limits}
use Rattle.record_kinds.specs.Series.{Series, Reads, Sends}
use Rattle.record_kinds.specs.Limits.{limits_at}
use Rattle.record_kinds.specs.Sound.{IsSoundAt}
use Rattle.record_kinds.proofs.Starts.{starts_sound}
use Rattle.bmc_board.specs.State.{State, on_bench}
use Rattle.bmc_board.proofs.OneAnswer.{has_answer}
use Rattle.bmc_board.proofs.Quiet.{keeps_records, keeps_stagings}
use Rattle.model_bus.specs.Addresses.{Addresses}
use Rattle.model_undo.specs.Family.{KeepsRecords}
use Rattle.model_undo.specs.Line.{Exchange, Line}
use Rattle.model_undo.specs.World.{BoardMay}
use Rattle.model_lab.specs.Family.{AllowsBody, IsReadyFor, family, answer}
use Rattle.bmc_core.specs.Wires.{asked_from}
use Rattle.model_lab.specs.ManagerWires.{wires}
use Rattle.model_lab.specs.Board.{StartsValid, StartsReady, QuietMay, BenchMay, AnswersMay}

-- ---- valid records

sound_value : (limits : Option Limits) (value : List ℕ) → IsSoundAt limits (Some value) → AllowsBody limits value
sound_value (Some l) value sound = sound
sound_value None value sound = sound

allows_sound : (limits : Option Limits) (had : Option (List ℕ)) (value : List ℕ) → had ≡ Some value → IsSoundAt limits had → AllowsBody limits value
allows_sound limits had value at sound = sound_value limits value (subst (IsSoundAt limits) at sound)

pub starts_valid : (setup : BoardFile) (at : Bus → Addresses) → StartsValid setup at
starts_valid setup at = record {
  opened_valid = λ key value found. allows_sound (limits_at setup key) _ value found (starts_sound setup key);
  sound_valid = λ records sound. λ key value found. allows_sound (limits_at setup key) (records key) value found (sound key);
}

-- nothing is staged
pub ready_at_first : (own : ℕ) (series : Series) → IsReadyFor own [] series []
ready_at_first own (Reads key) = tt
ready_at_first own (Sends asked) = lit< tt

pub starts_ready : (setup : BoardFile) (at : Bus → Addresses) → StartsReady setup at
starts_ready setup at = λ series. ready_at_first (at Smbus).manager series

-- ---- what may happen

-- a board with the same records and the same stagings is ready for the same
pub kept_by : (setup : BoardFile) (at : Bus → Addresses) (board after : State) → after.records ≡ board.records → after.activity.stagings ≡ board.activity.stagings → KeepsRecords (family setup at) board after
kept_by setup at board after records stagings = (records, λ series bodies ready. subst (λ (s : StagedParts). IsReadyFor (at Smbus).manager s series bodies) (sym stagings) ready)

pub bench_may : (setup : BoardFile) (at : Bus → Addresses) (L : Bus → Line) → BenchMay setup at L
bench_may setup at L w activity = kept_by setup at w.board (on_bench w.board activity) refl refl

pub quiet_may : (setup : BoardFile) (at : Bus → Addresses) (L : Bus → Line) → QuietMay setup at L
quiet_may setup at L bus e w asked a after is quiet row =
    let keeps = kept_by setup at w.board after (keeps_records setup w.board asked a after quiet row) (keeps_stagings setup w.board asked a after quiet row) in
    (is.0, is.1, subst (λ (o : Option Exchange). BoardMay (family setup at) L (wires at) bus o w.board after) (sym is.2) keeps)

pub answers_may : (setup : BoardFile) (at : Bus → Addresses) (L : Bus → Line) → AnswersMay setup at L
answers_may setup at L bus e w x is replies =
    let asked = asked_from at bus x.bytes in
    let given = answer setup w.board asked in
    (is.0, is.1, subst (λ (o : Option Exchange). BoardMay (family setup at) L (wires at) bus o w.board given.1) (sym is.2) (given.0, replies, has_answer setup w.board asked))

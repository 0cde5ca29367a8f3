use Rattle.std.proofs.Common.{◌≡◌, ◌+◌, ◌≤◌, ℕ, List, Some, length, sym, ◌∙◌, ap, arith}
use Rattle.std.specs.Option.{option_copied}
use Rattle.record_base.specs.Meaning.{room_for}
use Rattle.record_base.specs.declared.key.Key.{Key}
use Rattle.record_kinds.specs.Limits.{is_of, valid, view, get_asked, limits_at}
use Rattle.record_kinds.specs.Series.{first_shown}
use Rattle.record_kinds.specs.SeriesLaws.{first_short}
use Rattle.record_kinds.specs.SoundLaws.{valid_at}
use Rattle.bmc_board.proofs.AnswerFacts.{limits_are_of}
use Rattle.bmc_board.proofs.board.Board.get_at.Goals as goal

pub get_first-requires-clause-room : goal.get_first-requires-clause-room
get_first-requires-clause-room g c =
    let file = c.args.self.now.setup in
    let key : Key = c.args.key.now in
    let limits = c.in-Some-Some.limits in
    let value : List ℕ = c.in-Some-Some.value.now in
    let at : limits_at file key ≡ Some limits = sym c.limits.ensures ∙ c.in-Some-Some.is-0 in
    let had : g.S.Store.records c.args.self.now.records.store key ≡ Some value = sym c.get.ensures ∙ ap option_copied c.in-Some-Some.is-1 in
    let of_record : is_of limits key = limits_are_of file key limits at in
    let is_valid : valid limits value = valid_at _ _ limits value at had (c.args.self.now.sound key) in
    let short : length (first_shown limits (view limits value c.args.self.now.activity.live)) ≤ room_for (get_asked key) = first_short limits key value c.args.self.now.activity.live of_record is_valid in
    let room : length (g.B.Buffer.bytes c.args.to.now) + room_for (get_asked key) ≤ g.B.Buffer.capacity = c.requires.room in
    omega arith

use Rattle.std.proofs.Common.{◌≡◌, ◌++◌, string_bytes, take}
use Rattle.std.specs.List.{filter, list_any}
use Rattle.text_check.specs.Unfit.{fits_none, lines_of}
use Rattle.text_check.proofs.unfit.tell_unfit.Given as goal

abbrev pub invariant-loop-kept : goal.invariant-loop-kept
invariant-loop-kept l =
    (l.told ≡ list_any (fits_none l.board.sensors.items) (take l.kept-index l.board.sdr.items))
    × (string_bytes l.text ≡ string_bytes l.initial.text ++ lines_of l.name (filter (fits_none l.board.sensors.items) (take l.kept-index l.board.sdr.items)))

use Rattle.std.proofs.Common.{◌≡◌, length, map, take}
use Rattle.toml.specs.View.{view}
use Rattle.file_faults.specs.declared.rows.TheConstants.{NUMBERS}
use Rattle.text_board.specs.LanItems.{is_number_of}
use Rattle.file_faults.proofs.rows.listed_channels.Given as goal

abbrev pub invariant-loop-place : goal.invariant-loop-place
invariant-loop-place l = (length l.listed ≡ 16) × (take l.place l.listed ≡ map (is_number_of (map view l.channels)) (take l.place NUMBERS))

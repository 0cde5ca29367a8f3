use Rattle.std.proofs.Common.{◌≡◌, ◌++◌, take, string_bytes}
use Rattle.std.specs.List.{flat_map}
use Rattle.text_lines.specs.Cuts.{ended}
use Rattle.report_words.specs.Changes.{lines_over}
use Rattle.report_words.proofs.first_records.push_each.Given as goal

abbrev pub invariant-loop-first : goal.invariant-loop-first
invariant-loop-first g l = string_bytes l.text ≡ string_bytes l.fn.text ++ flat_map ended (lines_over l.fn.types l.fn.names (g.S.Store.records l.fn.store) (take l.first-index l.start))

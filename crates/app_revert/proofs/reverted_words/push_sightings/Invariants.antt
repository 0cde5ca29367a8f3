use Rattle.std.proofs.Common.{◌≡◌, ◌++◌, take, string_bytes}
use Rattle.std.specs.List.{flat_map}
use Rattle.app_revert.specs.Sentences.{line_of}
use Rattle.app_revert.proofs.reverted_words.push_sightings.Given as goal

abbrev pub invariant-loop-sighting : goal.invariant-loop-sighting
invariant-loop-sighting l = string_bytes l.text ≡ string_bytes l.fn.text ++ flat_map (line_of l.fn.names) (take l.sighting-index l.sightings)

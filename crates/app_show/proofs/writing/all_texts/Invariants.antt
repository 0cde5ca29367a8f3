use Rattle.std.proofs.Common.{◌≡◌, string_bytes, take}
use Rattle.app_show.specs.Plans.{all_of}
use Rattle.app_show.proofs.writing.all_texts.Given as goal

abbrev pub invariant-loop-text : goal.invariant-loop-text
invariant-loop-text l = string_bytes l.all ≡ all_of (take l.text-index l.texts)

use Rattle.std.proofs.Common.{◌≡◌, ◌++◌, drop, string_bytes}
use Rattle.hex.specs.Hex.{encode_upper}
use Rattle.text_journal.proofs.writing.push_digits.Given as goal

abbrev pub invariant-loop-place : goal.invariant-loop-place
invariant-loop-place l = string_bytes l.text ++ encode_upper (drop l.place l.bytes) ≡ string_bytes l.fn.text ++ encode_upper l.bytes

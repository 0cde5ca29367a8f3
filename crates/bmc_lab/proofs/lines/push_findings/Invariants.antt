use Rattle.std.proofs.Common.{◌≡◌, ◌++◌, string_bytes, take}
use Rattle.bmc_lab.specs.FindingWords.{finding_lines}
use Rattle.bmc_lab.proofs.lines.push_findings.Given as goal

abbrev pub invariant-loop-place : goal.invariant-loop-place
invariant-loop-place l = string_bytes l.text ≡ string_bytes l.fn.text ++ finding_lines l.names l.name 0 l.steps (take l.place l.findings)

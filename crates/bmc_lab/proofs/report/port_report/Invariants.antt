use Rattle.std.proofs.Common.{◌≡◌, take, string_bytes}
use Rattle.std.specs.List.{flat_map}
use Rattle.bmc_lab.specs.Report.{frame_line}
use Rattle.bmc_lab.proofs.report.port_report.Given as goal

abbrev pub invariant-loop-frame : goal.invariant-loop-frame
invariant-loop-frame l = string_bytes l.text ≡ flat_map frame_line (take l.frame-index l.frame-items)

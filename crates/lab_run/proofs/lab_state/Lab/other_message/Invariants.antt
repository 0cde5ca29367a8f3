use Rattle.std.proofs.Common.{◌≡◌, take}
use Rattle.two_wire.specs.declared.Bus.TheVariants as bus
use Rattle.cfg_records.specs.declared.board_file.BoardFile.{BoardFile}
use Rattle.model_lab.specs.declared.way.Way.TheVariants.{ToOthers}
use Rattle.model_lab.specs.Lab.{Lab as LabModel, port_does}
use Rattle.model_lab.specs.Meaning.{lab_names}
use Rattle.model_lab.specs.Played.{plans}
use Rattle.lab_run.specs.Shown.{Represents}
use Rattle.lab_run.specs.Hearing.{packets_of}
use Rattle.lab_run.proofs.Deeds.{hears_each}
use Rattle.lab_run.proofs.lab_state.Lab.other_message.Given as goal

abbrev pub invariant-loop-frame : goal.invariant-loop-frame
invariant-loop-frame l =
    ((file : BoardFile) (x : LabModel plans) → Represents file l.initial.self x
    → Represents file l.self (port_does plans bus.Smbus ToOthers 0 (hears_each file x.smbus x.board (take l.frame-index (packets_of lab_names l.message))) x))
    × (l.self.idles ≡ l.initial.self.idles)

use Rattle.std.proofs.Common.{sym}
use Rattle.two_wire.specs.declared.Bus.{Bus}
use Rattle.two_wire.specs.declared.Bus.TheVariants as bus
use Rattle.lab_run.specs.Marks.{IsKnown}
use Rattle.model_lab.specs.Meaning.{lab_names}
use Rattle.model_lab.specs.Played.{plans}
use Rattle.lab_run.specs.FramesShown.{marks_on}
use Rattle.lab_run.proofs.AllFrames.{all_frames}
use Rattle.lab_run.proofs.lab_state.Lab.marks.Goals as goal

pub returns : goal.returns
returns c file x shows = record { frames = all_frames _ _ shows.frames; known = known } where
  known : (on : Bus) → IsKnown plans x on (marks_on on (record { ipmb = record { begun = c.begun.result; idles = c.args.self.now.idles.ipmb }; smbus = record { begun = c.begun-2.result; idles = c.args.self.now.idles.smbus } }))
  known bus.Ipmb = record { begun = sym (c.begun.ensures lab_names x.manager shows.manager); idles = shows.idles bus.Ipmb }
  known bus.Smbus = record { begun = sym (c.begun-2.ensures lab_names x.manager shows.manager); idles = shows.idles bus.Smbus }

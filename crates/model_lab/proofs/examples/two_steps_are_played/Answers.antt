use Rattle.std.proofs.Common.{refl}
use Rattle.model_lab.specs.Lab.{run, opening}
use Rattle.model_lab.specs.Example.{board_file, two_steps}
use Rattle.model_lab.proofs.Example.{two_steps_undone}
use Rattle.model_lab.specs.Meaning.{lab_names}
use Rattle.model_lab.specs.Played.{plans, after, told_of}
use Rattle.model_lab.specs.PlayExample.{two_and_back}
use Rattle.model_lab.proofs.examples.two_steps_are_played.Goals as goal

pub returns : goal.returns
unfolding run
returns c =
    let first = opening plans board_file lab_names two_steps 3 in
    record {
      told = told_of board_file first (after board_file two_and_back first);
      played = (two_steps_undone.taken, refl);
      undone = two_steps_undone.undone;
      frames = two_steps_undone.frames;
      same = two_steps_undone.same;
    }

use Rattle.model_lab.specs.Lab.{opening}
use Rattle.model_lab.specs.Meaning.{lab_names}
use Rattle.model_lab.specs.Played.{plans}
use Rattle.lab_play.proofs.Moments.{told_stands}
use Rattle.lab_play.proofs.laws.restarted_plays_stand.Goals as goal

pub returns : goal.returns
returns c file plan retries =
    told_stands file plan retries (c.restarts_leave_everything_standing.ensures file lab_names plan retries)
    (c.restarts_are_followed.ensures file lab_names plan (opening plans file lab_names plan retries).board.records)

use Rattle.app_play.specs.Run.{tells_of}
use Rattle.app_play.proofs.OneRun.{one_saying}
use Rattle.app_play.proofs.laws.one_run.Goals as goal

pub returns : goal.returns
returns c shown board plan schedule =
    one_saying (record {
      board = c.one_board.ensures;
      plan = c.one_plan.ensures;
      events = c.one_schedule.ensures;
      refused = c.refused_or_told.ensures.refused;
      line = c.refused_or_told.ensures.first;
    }) (tells_of shown) board plan schedule (c.one_text.ensures shown)

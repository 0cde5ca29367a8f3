use Rattle.std.proofs.Common.{ap, ◌∙◌, List}
use Rattle.cfg_records.specs.Records.{Records, Pair}
use Rattle.bmc_board.specs.OwnStore.{own_records}
use Rattle.cfg_records.specs.Changed.{changed_in}
use Rattle.lab_play.proofs.played.Played.changed.Goals as goal

pub returns : goal.returns
returns c told tells =
    c.changed_count.ensures
    ∙ ap (λ (start : List Pair). changed_in (own_records c.records.result.now) start) c.as_slice.ensures.value
    ∙ ap (λ (records : Records). changed_in records c.args.self.now.start.items) (c.records.ensures told tells)

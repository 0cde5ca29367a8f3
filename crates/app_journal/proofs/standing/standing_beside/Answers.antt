use Rattle.app_journal.proofs.StandingFacts.{stands_as}
use Rattle.app_journal.proofs.standing.standing_beside.Goals as goal

pub returns-in_ok-is_finished-in-Something : goal.returns-in_ok-is_finished-in-Something
returns-in_ok-is_finished-in-Something c =
    stands_as c.args.text.now c.args.undo.now c.in_ok-is_finished-in-Something.field-0 c.stands_with.result c.in_ok-other.other c.in_ok-other.ensures c.in-Something.is
    c.in_ok-is_finished-in-Something.ensures c.stands_with.ensures

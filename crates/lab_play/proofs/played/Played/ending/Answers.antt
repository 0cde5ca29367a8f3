use Rattle.std.proofs.Common.{◌≡◌, Some, None}
use Rattle.lab_play.proofs.played.Played.ending.Goals as goal

pub returns-in-Ok-None : goal.returns-in-Ok-None
returns-in-Ok-None c =
    let none : c.in-Ok-None.field-0 ≡ None = rw c.in-Ok-None.is at c.in-Ok-None.field-0-is in
    rw (c.in-Ok-None.is, none)

pub returns-in-Ok-Some : goal.returns-in-Ok-Some
returns-in-Ok-Some c =
    let some : c.in-Ok-Some.field-0 ≡ Some c.in-Ok-Some.field-0-0 = rw c.in-Ok-Some.is at c.in-Ok-Some.field-0-is in
    rw (c.in-Ok-Some.is, some)

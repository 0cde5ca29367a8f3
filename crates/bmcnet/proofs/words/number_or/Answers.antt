use Rattle.std.proofs.Common.{inl, inr, refl}
use Rattle.clap.specs.Words.{found_of, rows_of}
use Rattle.app_base.proofs.Readings.{refuses_more}
use Rattle.bmcnet.proofs.Readings.{given_or}
use Rattle.bmcnet.proofs.words.number_or.Goals as goal

pub returns-in-Ok-Some-clause-number : goal.returns-in-Ok-Some-clause-number
returns-in-Ok-Some-clause-number c = inl (rw c.in-Ok-Some.field-0-is at c.in-Ok-Some.ensures.number)

pub returns-in-Ok-None-clause-number : goal.returns-in-Ok-None-clause-number
returns-in-Ok-None-clause-number c = inr (rw c.in-Ok-None.field-0-is at c.in-Ok-None.ensures.number, refl)

pub returns-in-Err-clause-refused : goal.returns-in-Err-clause-refused
returns-in-Err-clause-refused c =
    refuses_more _ _ _ (given_or c.args.least c.args.usual (rows_of (found_of c.args.matches.now)) c.args.name.now) c.in-Err.ensures.refused

use Rattle.std.proofs.Common.{map, string_bytes}
use Rattle.app_base.proofs.Readings.{refuses_on}
use Rattle.app_bmclab.proofs.check_words.check_words.Goals as goal

pub returns-in_err-way-clause-refused : goal.returns-in_err-way-clause-refused
returns-in_err-way-clause-refused c =
    refuses_on _ _ _ _ c.from_residual.ensures.1 (λ asked asks. (asked.way, asks.way)) c.in_err-way.ensures.refused

pub returns-in_err-files-clause-refused : goal.returns-in_err-files-clause-refused
returns-in_err-files-clause-refused c =
    refuses_on _ _ _ _ c.from_residual-in_err-files.ensures.1 (λ asked asks. (map string_bytes asked.files.items, asks.files)) c.in_err-files.ensures.refused

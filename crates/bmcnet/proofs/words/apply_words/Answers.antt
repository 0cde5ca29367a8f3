use Rattle.std.proofs.Common.{sym, string_bytes, subst, List, ℕ}
use Rattle.clap.specs.Words.{found_of, rows_of}
use Rattle.app_base.proofs.Readings.{refuses_on}
use Rattle.bmcnet.specs.Asked.{NamesFile}
use Rattle.bmcnet.proofs.words.apply_words.Goals as goal

pub returns-in_err-plan-clause-refused : goal.returns-in_err-plan-clause-refused
returns-in_err-plan-clause-refused c =
    refuses_on _ _ _ _ c.from_residual.ensures.1 (λ asked asks. (string_bytes asked.plan, asks.plan)) c.in_err-plan.ensures.refused

pub returns-in_err-reach-clause-refused : goal.returns-in_err-reach-clause-refused
returns-in_err-reach-clause-refused c =
    refuses_on _ _ _ _ c.from_residual-in_err-reach.ensures.1 (λ asked asks. (asked.reach, asks.reach)) c.in_err-reach.ensures.refused

pub returns-clause-asked : goal.returns-clause-asked
returns-clause-asked c = record {
  plan = c.in_ok-plan.ensures.word;
  file = subst (λ (plan : List ℕ). NamesFile (rows_of (found_of c.args.matches.now)) plan (string_bytes c.in_ok-file.file)) c.as_str.ensures.value c.in_ok-file.ensures.file;
  replace = sym c.has_flag-replace.ensures;
  reach = c.in_ok-reach.ensures.reach;
  json = sym c.has_flag-json.ensures;
}

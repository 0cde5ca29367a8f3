use Rattle.std.proofs.Common.{string_bytes}
use Rattle.app_pair.proofs.pairing.paired_report.Goals as goal

pub returns-clause-told : goal.returns-clause-told
returns-clause-told g c = record {
  run = c.in_ok-account.account.phases.run;
  undone = c.in_ok-account.account.phases.undone;
  changed = c.in_ok-account.account.changed;
  list = string_bytes c.in_ok-account.account.list;
  manager = c.in_ok-account.ensures.phases c.args.inputs.plan c.in-Ok.ensures;
  board = c.in_ok-account.ensures.changed c.args.options.list c.in-Ok-of.ensures;
  said = c.in_ok-account_report.ensures.text;
  ended = c.in_ok-account_report.ensures.status;
}

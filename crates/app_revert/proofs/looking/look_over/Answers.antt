use Rattle.app_revert.proofs.looking.look_over.Goals as goal

pub returns : goal.returns
returns c = record {
  before = c.in_ok-eye.eye;
  after = c.look_all.new.eye;
  none = c.none-looked.result;
  new = record { looker = c.in_ok-eye.ensures.looker; ipmb = c.in_ok-eye.ensures.ipmb; smbus = c.in_ok-eye.ensures.smbus };
  nothing = c.none-looked.ensures;
  looks = c.in_ok-look_all.ensures;
  reads = c.names_behind-names.ensures;
}

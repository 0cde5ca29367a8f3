-- A board file that has no item but its first user.
use Rattle.std.specs.Prelude.{ℕ, refl, [], ◌∷◌}
use Rattle.std.proofs.Common.{lit<, lit≤, arith}
use Rattle.cfg_records.specs.declared.board_file.BoardFile.{BoardFile}
use Rattle.record_base.specs.declared.sensor.Sensor.{Sensor}
use Rattle.record_base.specs.declared.numeric_effecter.NumericEffecter.{NumericEffecter}
use Rattle.record_base.specs.declared.state_effecter.StateEffecter.{StateEffecter}
use Rattle.record_base.specs.declared.user.UserAccess.{UserAccess}
use Rattle.record_base.specs.declared.lan.Lan.{Lan}
use Rattle.record_base.specs.declared.channel.Channel.{Channel}
use Rattle.record_base.specs.Numbers.{ChannelNumber, number_on}
use Rattle.record_base.specs.Sdr.{sdr_id}
use Rattle.record_base.specs.Distinct.{NamesDiffer}
use Rattle.record_base.specs.UsersLaws.{first_user, one_user}

-- no two items of none have one name
pub none_differ : {T : Type 0} (name : T → ℕ) → NamesDiffer name []
none_differ name i j d below within = absurd (omega (arith, below, within))

-- no record of items but the first user's, and each other record as plain as it can be
abbrev pub bare_file : BoardFile
bare_file = record {
  tid = 0;
  device = record {
    id = 0;
    revision = 0;
    major = 0;
    minor = record { byte = 0; tens = lit< tt; ones = lit< tt };
    support = 0;
    manufacturer = record { number = 0; three_bytes = lit< tt };
    product = 0;
  };
  sensors = record { items = []; differ = none_differ (λ (s : Sensor). s.number); few = lit≤ tt };
  policy = record { number = 0; valid = record { one = refl; known = lit≤ tt } };
  watchdog = record {
    timer_use = 0;
    actions = 0;
    pre_timeout = 0;
    initial = 0;
    valid = record { five = refl; known_use = lit≤ tt; known_interrupt = lit≤ tt; known_action = lit≤ tt; low_byte = lit< tt; high_byte = lit< tt };
  };
  clock = 0;
  log = record { records = 1; least = lit≤ tt; most = lit≤ tt };
  enables = record { byte = 0; valid = record { one = refl; unreserved = refl } };
  sdr = record { items = []; differ = none_differ sdr_id; few = lit≤ tt };
  boot = record {
    valid_bit_clearing = 0;
    info_acknowledge = 0;
    flags = record { validity = 0; device = 0; console = 0; overrides = 0; instance = 0 };
    five_bits = lit< tt;
    byte = lit< tt;
  };
  numeric_effecters = record { items = []; differ = none_differ (λ (e : NumericEffecter). e.id); few = lit≤ tt };
  state_effecters = record { items = []; differ = none_differ (λ (e : StateEffecter). e.id); few = lit≤ tt };
  users = record { items = first_user ∷ []; valid = one_user };
  channels = record { items = []; differ = none_differ (λ (c : Channel). c.number.number); few = lit≤ tt };
  sessionless = record { items = []; differ = none_differ (λ (c : ChannelNumber). c.number); few = lit≤ tt };
  user_accesses = record { items = []; differ = none_differ (λ (a : UserAccess). number_on a.on); few = lit≤ tt };
  attributes = record { items = []; placed = tt; few = lit≤ tt };
  lans = record { items = []; differ = none_differ (λ (l : Lan). l.number.number); few = lit≤ tt };
  apart = none_differ (λ (number : ℕ). number);
  few = lit≤ tt;
  known = refl;
  listed = refl;
  each = refl;
}

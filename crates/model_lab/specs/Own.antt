-- That no packet joins another request's assembly.
use Rattle.std.specs.Prelude.{◌≡◌, ℕ, false, List, [], ◌∷◌, None, slice_get, IfSome}
use Rattle.mctp_net.specs.Assembly.{drop_cause}
use Rattle.cfg_records.specs.declared.board_file.BoardFile.{BoardFile}
use Rattle.bmc_core.specs.Values.{Value, Asks, Tells, Part}
use Rattle.model_lab.specs.ManagerSteps.{Plans}
use Rattle.model_lab.specs.Lab.{Event, ToBmc, Lab, step}

module _ (plans : Plans) where
  -- a packet that is joined to others at the port is joined to an assembly that a packet of this request opened
  abbrev pub JoinsOwn : Lab plans → ℕ → Value → Type 0
  JoinsOwn lab request (Asks asked) = Unit {0}
  JoinsOwn lab request (Tells response) = Unit {0}
  JoinsOwn lab request (Part packet) = packet.start ≡ false → drop_cause lab.smbus.eid lab.smbus.kept packet ≡ None → lab.opened packet.envelope.tag ≡ request

  -- the event joins no packet to an assembly that a packet of another request opened
  abbrev pub IsOwn : Lab plans → Event → Type 0
  IsOwn lab (ToBmc number) = IfSome (slice_get lab.frames number) (λ frame. JoinsOwn lab frame.request frame.value)
  IsOwn lab _ = Unit {0}

  -- no event of a schedule joins packets so, where it happens
  abbrev pub AllOwn : BoardFile → List Event → Lab plans → Type 0
  AllOwn setup [] lab = Unit {0}
  AllOwn setup (event ∷ events) lab = IsOwn lab event × AllOwn setup events (step plans setup lab event)

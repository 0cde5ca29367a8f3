-- A request of the manager is sent: its first frames, or the same again.
use Rattle.std.proofs.Common.{◌≡◌, ℕ, ◌%◌, List, [], ◌∷◌, ◌++◌, length, Some, refl, sym, ◌∙◌, ap, subst}
use Rattle.std.specs.Prelude.{slice_get}
use Rattle.two_wire.specs.declared.Bus.{Bus}
use Rattle.two_wire.specs.declared.Bus.TheVariants.{Ipmb, Smbus}
use Rattle.record_base.specs.declared.message.Asked.{Asked}
use Rattle.cfg_records.specs.declared.board_file.BoardFile.{BoardFile}
use Rattle.model_bus.specs.Request.{Kept, idles_of}
use Rattle.model_bus.specs.BusState.{BusState, Frame, Ask}
use Rattle.model_bus.specs.Repeat.{In}
use Rattle.model_bus.specs.Assembly.{SentPacket}
use Rattle.model_bus.specs.PacketBus.{BusEnds, request_name}
use Rattle.bmc_core.specs.Seen.{WaitsAlike}
use Rattle.model_bus.specs.Answering.{AreWritten}
use Rattle.model_bus.specs.Bytes.{IsRequestOn}
use Rattle.model_bus.proofs.Lists.{Grows, grows, at_end}
use Rattle.model_undo.specs.Machine.{count_of}
use Rattle.model_undo.specs.Wires.{number_of, IsMade}
use Rattle.model_undo.specs.World.{States, update}
use Rattle.bmc_core.specs.Wires.{bus_of, bytes_of}
use Rattle.model_lab.specs.ManagerWords.{manager_words}
use Rattle.undo_plans.specs.declared.names.Names.{Names}
use Rattle.bmc_core.specs.PortEvents.{IsPortOf}
use Rattle.model_lab.specs.ManagerSteps.{addresses, values_of, own_on}
use Rattle.model_lab.specs.declared.way.Way.TheVariants.{ToPort}
use Rattle.model_lab.specs.Lab.{Lab, idles_on, with_frames}
use Rattle.model_headline.specs.Each.{Each}
use Rattle.model_headline.proofs.Each.{each_append}
use Rattle.model_headline.specs.Tied.{own_plans, own_lines, smbus_bus, rules_on, requests, IsHeld, EntryAnswers, IsTied}
use Rattle.model_headline.proofs.Frames.{Sends, all_held}
use Rattle.model_headline.proofs.Sending.{request_held}

-- ---- one bus is another

module _ (setup : BoardFile) (names : Names) where
  -- the manager's requests on a bus are these; what waits on SMBus is left
  abbrev pub put : Bus → BusState → States (own_lines setup names) → States (own_lines setup names)
  put Ipmb s on = update (own_lines setup names) Ipmb s on
  put Smbus s on = update (own_lines setup names) Smbus (record (on Smbus) { bus = s }) on

  pub each_put : (bus : Bus) (s : BusState) (on : States (own_lines setup names)) (Q : Bus → BusState → Type 0) → ((any : Bus) → Q any (requests setup names on any)) → Q bus s
      → (any : Bus) → Q any (requests setup names (put bus s on) any)
  each_put Ipmb s on Q all here Ipmb = here
  each_put Ipmb s on Q all here Smbus = all Smbus
  each_put Smbus s on Q all here Ipmb = all Ipmb
  each_put Smbus s on Q all here Smbus = here

  pub put_here : (bus : Bus) (s : BusState) (on : States (own_lines setup names)) → requests setup names (put bus s on) bus ≡ s
  put_here Ipmb s on = refl
  put_here Smbus s on = refl

  -- ---- a frame is sent

  -- a frame of the request of this count is sent, and nothing else comes to the port or to the manager
  pub record IsSentTo (bus : Bus) (old new : BusState) (bytes : List ℕ) (count : ℕ) : Type 0 where
    pub log : new.log ≡ old.log
    pub taken : new.taken ≡ old.taken
    pub carried : new.carried ≡ old.carried
    pub frames : new.frames ≡ old.frames ++ record { request = count; idles = idles_of (rules_on setup names bus).manager old.log; content = Ask bytes } ∷ []
    pub requests : (n : ℕ) (b : List ℕ) → slice_get new.begun n ≡ Some b → IsRequestOn bus ((rules_on setup names bus).number_of n) b

  port_put : (bus : Bus) (s : BusState) (x : Lab (own_plans setup names)) (on : States (own_lines setup names)) → s.log ≡ (requests setup names on bus).log → IsPortOf (on Smbus) x.smbus → IsPortOf (put bus s on Smbus) x.smbus
  port_put Ipmb s x on same is = is
  port_put Smbus s x on same is = record { log = same ∙ is.log; waits = is.waits; sound = is.sound }

  log_put : (bus : Bus) (s : BusState) (x : Lab (own_plans setup names)) (on : States (own_lines setup names)) → s.log ≡ (requests setup names on bus).log → (on Ipmb).log ≡ x.ipmb.log → (put bus s on Ipmb).log ≡ x.ipmb.log
  log_put Ipmb s x on same is = same ∙ is
  log_put Smbus s x on same is = is

  -- how often the manager's window was forgotten is the same in the model
  pub idles_alike : (bus : Bus) (x : Lab (own_plans setup names)) (on : States (own_lines setup names)) → IsTied setup names x on → idles_of (rules_on setup names bus).manager (requests setup names on bus).log ≡ idles_on (own_plans setup names) bus x
  idles_alike Ipmb x on tied = ap (idles_of names.own_address) tied.ipmb_log ∙ ap (λ n. idles_of (own_on Ipmb n) x.ipmb.log) (sym tied.named)
  idles_alike Smbus x on tied = ap (idles_of names.own_eid) tied.smbus_port.log ∙ ap (λ n. idles_of (own_on Smbus n) x.smbus.log) (sym tied.named)

  waits_put : (bus : Bus) (s : BusState) (on : States (own_lines setup names)) (Q : BusEnds → Type 0) → ((e : BusEnds) (b : BusState) → Q e → Q (record e { bus = b })) → Q (on Smbus) → Q (put bus s on Smbus)
  waits_put Ipmb s on Q keeps q = q
  waits_put Smbus s on Q keeps q = keeps (on Smbus) s q

  pub sent_tied : (x : Lab (own_plans setup names)) (on : States (own_lines setup names)) (asked : Asked) (count : ℕ) (s : BusState) → IsTied setup names x on → IsMade (manager_words (addresses names)) asked
      → IsSentTo (bus_of asked) (requests setup names on (bus_of asked)) s (bytes_of (number_of (bus_of asked) count) asked) count
      → IsTied setup names (with_frames (own_plans setup names) (bus_of asked) ToPort count (values_of names count asked) x) (put (bus_of asked) s on)
  sent_tied x on asked count s tied made is =
      let bus : Bus = bus_of asked in
      let old : BusState = requests setup names on bus in
      let now : States (own_lines setup names) = put bus s on in
      let g : Frame = record { request = count; idles = idles_of (rules_on setup names bus).manager old.log; content = Ask (bytes_of (number_of bus count) asked) } in
      let more : Grows old.frames s.frames = subst (Grows old.frames) (sym is.frames) (grows old.frames (g ∷ [])) in
      let there : slice_get (requests setup names now bus).frames (length old.frames) ≡ Some g =
      ap (λ (b : BusState). slice_get b.frames (length old.frames)) (put_here bus s on) ∙ ap (λ (fs : List Frame). slice_get fs (length old.frames)) is.frames ∙ at_end old.frames g in
      let sends : Sends setup names on now = each_put bus s on (λ any b. Grows (requests setup names on any).frames b.frames) (λ any n f e. e) more in
      record {
        named = tied.named;
        ipmb_wire = tied.ipmb_wire;
        smbus_wire = tied.smbus_wire;
        ipmb_log = log_put bus s x on is.log tied.ipmb_log;
        smbus_port = port_put bus s x on is.log tied.smbus_port;
        waits = waits_put bus s on (λ e. WaitsAlike e.manager x.manager.joined) (λ e b q. q) tied.waits;
        alone = tied.alone;
        counted = each_put bus s on (λ any b. count_of any x.manager.machine.counts ≡ length b.taken) tied.counted (tied.counted bus ∙ ap (λ (l : List (List ℕ)). length l) (sym is.taken));
        written = each_put bus s on (λ any b. AreWritten any (rules_on setup names any) b) tied.written
            (record { requests = is.requests; replies = λ n k e. (tied.written bus).replies n k (ap (λ (l : List Kept). slice_get l n) (sym is.carried) ∙ e) });
        answered = each_put bus s on (λ any b. Each (EntryAnswers setup names any) b.log) tied.answered (subst (Each (EntryAnswers setup names bus)) (sym is.log) (tied.answered bus));
        made = tied.made;
        frames = each_append (IsHeld setup names now) x.frames _ (all_held setup names on now x.frames sends tied.frames)
            (request_held setup names now (length old.frames) count (idles_on (own_plans setup names) bus x) g asked made there refl (idles_alike bus x on tied) refl);
        opened = waits_put bus s on
            (λ e. (n : ℕ) (t : SentPacket) → In t (e.port (request_name (smbus_bus setup names) n)) → t.request ≡ x.opened (n % 8))
            (λ e b q. q) tied.opened;
      }

-- A stage is entered, and its request, if it opens one, is sent.
use Rattle.std.proofs.Common.{◌≡◌, ℕ, ◌+◌, ◌%◌, ◌≤◌, Bool, false, cond, List, [], ◌∷◌, ◌++◌, length, Option, Some, None, refl, sym, ◌∙◌, ap, subst, arith, ◌⊎◌, inl, inr}
use Rattle.std.specs.Prelude.{slice_get}
use Rattle.std.specs.Option.{option_map}
use Rattle.std.proofs.lemmas.Bool.{le-ltb}
use Rattle.two_wire.specs.declared.Bus.{Bus}
use Rattle.two_wire.specs.declared.Bus.TheVariants.{Ipmb, Smbus}
use Rattle.record_base.specs.declared.message.Asked.{Asked}
use Rattle.record_base.specs.declared.message.Asked.TheVariants.{Ipmi, Pldm}
use Rattle.cfg_records.specs.declared.board_file.BoardFile.{BoardFile}
use Rattle.model_bus.specs.BusState.{BusState, Ask, is_open, begins, sent, sends_again as sends_open}
use Rattle.model_bus.specs.Request.{idles_of}
use Rattle.model_bus.specs.Bytes.{IsRequestOn}
use Rattle.model_bus.proofs.Lists.{one_more}
use Rattle.model_undo.specs.Machine.{count_of, Part, Stage, AtStart, Opened, AtEnd, AtHalt, AtUndone, AtRefused, sending, sends_at}
use Rattle.model_undo.specs.Words.{Words}
use Rattle.model_undo.specs.Wires.{number_of, IsMade}
use Rattle.model_undo.specs.World as world
use Rattle.model_undo.specs.World.{States}
use Rattle.bmc_core.specs.Wires.{bus_of, bytes_of}
use Rattle.model_lab.specs.ManagerWords.{manager_words}
use Rattle.model_lab.proofs.Spelled.{are_spelled}
use Rattle.undo_plans.specs.declared.names.Names.{Names}
use Rattle.model_bus.specs.Addresses.{Addresses}
use Rattle.model_lab.specs.ManagerSteps.{Sent as SentFrames, addresses, values_of, sent_of}
use Rattle.model_lab.specs.declared.way.Way.TheVariants.{ToPort}
use Rattle.model_lab.specs.Lab.{Lab, with_frames, sends}
use Rattle.model_headline.specs.Made.{StageMade}
use Rattle.model_headline.specs.Tied.{own_plans, own_family, own_lines, own_wires, rules_on, requests, IsTied, world_of}
use Rattle.model_headline.proofs.Sent.{put, IsSentTo, sent_tied}
use Rattle.model_headline.proofs.Sending.{from_zero}

module _ (setup : BoardFile) (names : Names) where
  abbrev pub own : Bus → Addresses
  own = addresses names

  abbrev pub words : Words
  words = manager_words own

  -- as many requests were begun as were answered
  abbrev pub NoneOpen : States (own_lines setup names) → Type 0
  NoneOpen on = (bus : Bus) → length (requests setup names on bus).begun ≡ length (requests setup names on bus).taken

  is_number : (bus : Bus) (n : ℕ) (bytes : List ℕ) → IsRequestOn bus (number_of bus n) bytes → IsRequestOn bus ((rules_on setup names bus).number_of n) bytes
  is_number Ipmb n bytes is = subst (λ (k : ℕ). IsRequestOn Ipmb (k % 64) bytes) (from_zero n) is
  is_number Smbus n bytes is = subst (λ (k : ℕ). IsRequestOn Smbus (k % 32) bytes) (from_zero n) is

  -- the model's request is begun
  begun_sent : (asked : Asked) (count : ℕ) (s : BusState) → IsMade (manager_words own) asked → length s.begun ≡ count
      → ((n : ℕ) (b : List ℕ) → slice_get s.begun n ≡ Some b → IsRequestOn (bus_of asked) ((rules_on setup names (bus_of asked)).number_of n) b)
      → IsSentTo setup names (bus_of asked) s (begins (rules_on setup names (bus_of asked)) (bytes_of (number_of (bus_of asked) count) asked) s) (bytes_of (number_of (bus_of asked) count) asked) count
  begun_sent asked count s made all spelled =
      let bus = bus_of asked in
      let bytes = bytes_of (number_of bus count) asked in
      record {
        log = refl;
        taken = refl;
        carried = refl;
        frames = ap (λ (n : ℕ). s.frames ++ record { request = n; idles = idles_of (rules_on setup names bus).manager s.log; content = Ask bytes } ∷ []) all;
        requests = λ n b e. by n b (one_more s.begun bytes n b e);
      }
    where
      by : (n : ℕ) (b : List ℕ) → (slice_get s.begun n ≡ Some b) ⊎ ((n ≡ length s.begun) × (bytes_of (number_of (bus_of asked) count) asked ≡ b)) → IsRequestOn (bus_of asked) ((rules_on setup names (bus_of asked)).number_of n) b
      by n b (inl old) = spelled n b old
      by n b (inr new) =
          subst (λ (x : List ℕ). IsRequestOn (bus_of asked) ((rules_on setup names (bus_of asked)).number_of n) x) new.1
          (subst (λ (k : ℕ). IsRequestOn (bus_of asked) ((rules_on setup names (bus_of asked)).number_of k) (bytes_of (number_of (bus_of asked) count) asked)) (sym all ∙ sym new.0)
          (is_number (bus_of asked) count (bytes_of (number_of (bus_of asked) count) asked) ((are_spelled own).requests count asked made)))

  closed_is : (s : BusState) → length s.begun ≡ length s.taken → is_open s ≡ false
  closed_is s all = le-ltb _ _ (let below : length s.begun ≤ length s.taken = omega (arith, all) in below)

  -- the request is begun
  begin_tied : (asked : Asked) (count : ℕ) (y : Lab (own_plans setup names)) (on : States (own_lines setup names)) → IsTied setup names y on → IsMade (manager_words own) asked → NoneOpen on
      → count ≡ length (requests setup names on (bus_of asked)).taken
      → IsTied setup names (with_frames (own_plans setup names) (bus_of asked) ToPort count (values_of names count asked) y)
      (world.begins (own_family setup names) (own_lines setup names) (own_wires setup names) (Some (record { bus = bus_of asked; count = count; asked = asked })) on)
  begin_tied (Ipmi from net_fn lun command body) count y on tied made all same =
      let asked : Asked = Ipmi from net_fn lun command body in
      let s = on Ipmb in
      let bytes = bytes_of (number_of Ipmb count) asked in
      subst (λ (t : Bool). IsTied setup names (with_frames (own_plans setup names) Ipmb ToPort count (values_of names count asked) y) (put setup names Ipmb (cond t s (begins (rules_on setup names Ipmb) bytes s)) on)) (sym (closed_is s (all Ipmb)))
      (sent_tied setup names y on asked count (begins (rules_on setup names Ipmb) bytes s) tied made (begun_sent asked count s made (all Ipmb ∙ sym same) (tied.written Ipmb).requests))
  begin_tied (Pldm from kind command body) count y on tied made all same =
      let asked : Asked = Pldm from kind command body in
      let s = (on Smbus).bus in
      let bytes = bytes_of (number_of Smbus count) asked in
      subst (λ (t : Bool). IsTied setup names (with_frames (own_plans setup names) Smbus ToPort count (values_of names count asked) y) (put setup names Smbus (cond t s (begins (rules_on setup names Smbus) bytes s)) on)) (sym (closed_is s (all Smbus)))
      (sent_tied setup names y on asked count (begins (rules_on setup names Smbus) bytes s) tied made (begun_sent asked count s made (all Smbus ∙ sym same) (tied.written Smbus).requests))

  -- a stage is entered where no request is open
  pub enter_tied : (stage : Stage (manager_words own)) (y : Lab (own_plans setup names)) (on : States (own_lines setup names)) → IsTied setup names y on → StageMade own stage → NoneOpen on
      → IsTied setup names (sends (own_plans setup names) (option_map (sent_of (own_plans setup names) y.manager.names) (sends_at (manager_words own) stage y.manager.machine.counts)) y)
      (world.begins (own_family setup names) (own_lines setup names) (own_wires setup names) (sends_at (manager_words own) stage y.manager.machine.counts) on)
  enter_tied (Opened heeded task part) y on tied made all =
      let asked = part.asked in
      let count = count_of (bus_of asked) y.manager.machine.counts in
      subst (λ (n : Names). IsTied setup names (with_frames (own_plans setup names) (bus_of asked) ToPort count (values_of n count asked) y)
      (world.begins (own_family setup names) (own_lines setup names) (own_wires setup names) (Some (record { bus = bus_of asked; count = count; asked = asked })) on)) (sym tied.named)
      (begin_tied asked count y on tied made.0 all (tied.counted (bus_of asked)))
  enter_tied AtStart y on tied made all = tied
  enter_tied AtEnd y on tied made all = tied
  enter_tied (AtHalt k why) y on tied made all = tied
  enter_tied AtUndone y on tied made all = tied
  enter_tied (AtRefused k code) y on tied made all = tied

  -- the open request is sent again
  again_tied_at : (asked : Asked) (count : ℕ) (y : Lab (own_plans setup names)) (on : States (own_lines setup names)) → IsTied setup names y on → IsMade (manager_words own) asked
      → count ≡ length (requests setup names on (bus_of asked)).taken
      → slice_get (requests setup names on (bus_of asked)).begun (length (requests setup names on (bus_of asked)).taken) ≡ Some (bytes_of (number_of (bus_of asked) count) asked)
      → IsTied setup names (with_frames (own_plans setup names) (bus_of asked) ToPort count (values_of names count asked) y)
      (world.sends_again (own_family setup names) (own_lines setup names) (own_wires setup names) (Some (record { bus = bus_of asked; count = count; asked = asked })) on)
  again_tied_at (Ipmi from net_fn lun command body) count y on tied made same at =
      let asked : Asked = Ipmi from net_fn lun command body in
      let s = on Ipmb in
      let b = rules_on setup names Ipmb in
      let bytes = bytes_of (number_of Ipmb count) asked in
      subst (λ o. IsTied setup names (with_frames (own_plans setup names) Ipmb ToPort count (values_of names count asked) y) (put setup names Ipmb (sends_open b o s) on)) (sym at)
      (sent_tied setup names y on asked count (sent b (length s.taken) (Ask bytes) s) tied made
      (record { log = refl; taken = refl; carried = refl; frames = ap (λ (n : ℕ). s.frames ++ record { request = n; idles = idles_of b.manager s.log; content = Ask bytes } ∷ []) (sym same); requests = (tied.written Ipmb).requests }))
  again_tied_at (Pldm from kind command body) count y on tied made same at =
      let asked : Asked = Pldm from kind command body in
      let s = (on Smbus).bus in
      let b = rules_on setup names Smbus in
      let bytes = bytes_of (number_of Smbus count) asked in
      subst (λ o. IsTied setup names (with_frames (own_plans setup names) Smbus ToPort count (values_of names count asked) y) (put setup names Smbus (sends_open b o s) on)) (sym at)
      (sent_tied setup names y on asked count (sent b (length s.taken) (Ask bytes) s) tied made
      (record { log = refl; taken = refl; carried = refl; frames = ap (λ (n : ℕ). s.frames ++ record { request = n; idles = idles_of b.manager s.log; content = Ask bytes } ∷ []) (sym same); requests = (tied.written Smbus).requests }))

  pub again_tied : (part : Part (manager_words own)) (y : Lab (own_plans setup names)) (on : States (own_lines setup names)) → IsTied setup names y on → IsMade (manager_words own) part.asked
      → (let bus = bus_of part.asked in let s = requests setup names on bus in slice_get s.begun (length s.taken) ≡ Some (bytes_of (number_of bus (0 + length s.taken)) part.asked))
      → IsTied setup names (sends (own_plans setup names) (option_map (sent_of (own_plans setup names) y.manager.names) (Some (sending (manager_words own) part y.manager.machine.counts))) y)
      (world.sends_again (own_family setup names) (own_lines setup names) (own_wires setup names) (Some (sending (manager_words own) part y.manager.machine.counts)) on)
  again_tied part y on tied made at =
      let asked = part.asked in
      let count = count_of (bus_of asked) y.manager.machine.counts in
      subst (λ (n : Names). IsTied setup names (with_frames (own_plans setup names) (bus_of asked) ToPort count (values_of n count asked) y)
      (world.sends_again (own_family setup names) (own_lines setup names) (own_wires setup names) (Some (record { bus = bus_of asked; count = count; asked = asked })) on)) (sym tied.named)
      (again_tied_at asked count y on tied made (tied.counted (bus_of asked))
      (at ∙ ap (λ (n : ℕ). Some (bytes_of (number_of (bus_of asked) n) asked)) (sym (from_zero _) ∙ sym (tied.counted (bus_of asked)))))

  -- sending leaves the manager and the board
  pub same_world : (o : Option SentFrames) (y : Lab (own_plans setup names)) (on : States (own_lines setup names)) → world_of setup names y on ≡ world_of setup names (sends (own_plans setup names) o y) on
  same_world None y on = refl
  same_world (Some s) y on = refl

-- What a lab sends, and what each call makes of it, are the model's.
use Rattle.std.proofs.Common.{◌≡◌, ℕ, ◌+◌, ◌%◌, Bool, true, false, cond, List, [], ◌∷◌, ◌++◌, map, Option, Some, None, refl, sym, ◌∙◌, ap, subst}
use Rattle.std.specs.Prelude.{◌==◌}
use Rattle.std.specs.Option.{option_map}
use Rattle.std.proofs.lemmas.List.{map-append}
use Rattle.two_wire.specs.declared.Bus.{Bus}
use Rattle.two_wire.specs.declared.Bus.TheVariants.{Ipmb, Smbus}
use Rattle.mctp_net.specs.declared.packet.Envelope.{Envelope}
use Rattle.mctp_net.specs.declared.packet.Packet.{Packet}
use Rattle.record_base.specs.declared.message.Asked.{Asked}
use Rattle.record_base.specs.declared.message.Asked.TheVariants.{Ipmi, Pldm}
use Rattle.undo_plans.specs.declared.names.Names.{Names}
use Rattle.model_bus.specs.Request as bus
use Rattle.model_undo.specs.Machine as machine
use Rattle.bmc_core.specs.Values as values
use Rattle.model_lab.specs.ManagerSteps as manager
use Rattle.model_lab.specs.Lab as lab
use Rattle.pldm_base.specs.Message.{request_bytes}
use Rattle.model_headline.specs.Frames.{Value, Part, circle, envelope, packets_of}
use Rattle.model_headline.specs.Manager.{Call, Phase, Fresh, Open, Done, Halted, Undone, UndoRefused, Turn, called, bus_of, asked_for, open_in, frames_of}
use Rattle.model_headline.specs.Lab.{Entry, Carried, Idled, Way, ToPort, Frame, Lab, idles_of, idles_on, with_frames, sends, goes_on}
use Rattle.model_headline.proofs.Cuts.{cuts_alike}
use Rattle.model_headline.proofs.Machine.{sends_of, turns_at, IsTurn, call_turn}
use Rattle.model_headline.specs.Seen.{seen_log, seen_plans, spell, seen_value, seen_way, seen_frame, seen_call, seen_manager, seen_lab, SeenManager, stage_of, counts_of, machine_of}
use Rattle.model_lab.specs.declared.way.Way.TheVariants as lab_way

-- ---- packets

pub parts_seen : (ps : List Packet) → map values.Part ps ≡ map seen_value (map Part ps)
parts_seen [] = refl
parts_seen (p ∷ ps) = ap (λ (rest : List values.Value). values.Part p ∷ rest) (parts_seen ps)

-- the packets of a message
pub sent_parts : (e : Envelope) (bytes body : List ℕ) → bytes ≡ body → map values.Part (values.parts_of (record { envelope = e; body = bytes })) ≡ map seen_value (map Part (packets_of e body))
sent_parts e bytes body same = ap (map values.Part) (cuts_alike e bytes ∙ ap (packets_of e) same) ∙ parts_seen (packets_of e body)

module _ (names : Names) where
  pub values_alike : (n : ℕ) (asked : Asked) → manager.values_of names n asked ≡ map seen_value (frames_of names n asked)
  values_alike n (Ipmi from net_fn lun command body) = refl
  values_alike n (Pldm from kind command body) =
      sent_parts (envelope names.peer_wire names.own_wire names.peer_eid names.own_eid true (n % 8)) (1 ∷ (128 + n % 32) ∷ kind ∷ command ∷ body)
      (1 ∷ request_bytes (record { header = record { instance = n % circle Smbus; pldm_type = kind; command = command }; body = body })) refl

  -- ---- frames

  idles_alike : (on : Bus) (q : ℕ) (log : List Entry) → bus.idles_of q (seen_log (spell on) log) ≡ idles_of q log
  idles_alike on q [] = refl
  idles_alike on q (Carried r a ∷ log) = idles_alike on q log
  idles_alike on q (Idled p ∷ log) = ap (λ n. cond (p == q) (n + 1) n) (idles_alike on q log)

  pub idles_on_alike : (on : Bus) (made : SeenManager) (x : Lab) → lab.idles_on (seen_plans names) on (seen_lab names made x) ≡ idles_on names on x
  idles_on_alike Ipmb made x = idles_alike Ipmb names.own_address x.ipmb.log
  idles_on_alike Smbus made x = idles_alike Smbus names.own_eid x.smbus.log

  frames_so : (on : Bus) (way : Way) (request m n : ℕ) → m ≡ n → (vs : List Value)
      → map (λ (v : values.Value). let f : lab.LabFrame = record { on = on; way = seen_way way; request = request; idles = m; value = v } in f) (map seen_value vs)
      ≡ map seen_frame (map (λ (v : Value). let f : Frame = record { on = on; way = way; request = request; idles = n; value = v } in f) vs)
  frames_so on way request m n e [] = refl
  frames_so on way request m n e (v ∷ vs) = λ i. record { on = on; way = seen_way way; request = request; idles = e i; value = seen_value v } ∷ frames_so on way request m n e vs i

  pub frames_alike : (on : Bus) (way : Way) (request : ℕ) (vs : List Value) (made : SeenManager) (x : Lab)
      → lab.with_frames (seen_plans names) on (seen_way way) request (map seen_value vs) (seen_lab names made x) ≡ seen_lab names made (with_frames names on way request vs x)
  frames_alike on way request vs made x =
      ap (λ (fs : List lab.LabFrame). record (seen_lab names made x) { frames = fs })
      (ap (λ (fs : List lab.LabFrame). map seen_frame x.frames ++ fs) (frames_so on way request (lab.idles_on (seen_plans names) on (seen_lab names made x)) (idles_on names on x) (idles_on_alike on made x) vs)
      ∙ sym (map-append seen_frame x.frames (map (λ (v : Value). let f : Frame = record { on = on; way = way; request = request; idles = idles_on names on x; value = v } in f) vs)))

  -- ---- turns

  count_so : (on : Bus) (answered : Bus → ℕ) → machine.count_of on (counts_of names answered) ≡ answered on
  count_so Ipmb answered = refl
  count_so Smbus answered = refl

  -- the deed of the model that a turn is
  abbrev pub seen_deed : (made : List ℕ) → Turn → manager.ManagerStepResult (seen_plans names)
  seen_deed made t = record { manager = seen_manager names made t.manager; sent = option_map (manager.sent_of (seen_plans names) names) (sends_of names t) }

  pub turn_lands : (t : Turn) (made : SeenManager) (x : Lab) → lab.manager_does (seen_plans names) (seen_deed made.manager t) (seen_lab names made x) ≡ seen_lab names made (goes_on names t x)
  turn_lands t made x = at t.sends t.manager.phase
    where
      sent : (asked : Asked) → (count : ℕ) → count ≡ t.manager.answered (bus_of asked)
          → lab.with_frames (seen_plans names) (bus_of asked) lab_way.ToPort count (manager.values_of names count asked) (seen_lab names made (record x { manager = t.manager }))
          ≡ seen_lab names made (sends names (Some asked) (record x { manager = t.manager }))
      sent asked count e =
          ap (λ n. lab.with_frames (seen_plans names) (bus_of asked) lab_way.ToPort n (manager.values_of names n asked) (seen_lab names made (record x { manager = t.manager }))) e
          ∙ ap (λ (vs : List values.Value). lab.with_frames (seen_plans names) (bus_of asked) lab_way.ToPort (t.manager.answered (bus_of asked)) vs (seen_lab names made (record x { manager = t.manager }))) (values_alike (t.manager.answered (bus_of asked)) asked)
          ∙ frames_alike (bus_of asked) ToPort (t.manager.answered (bus_of asked)) (frames_of names (t.manager.answered (bus_of asked)) asked) made (record x { manager = t.manager })

      at : (b : Bool) (phase : Phase)
          → lab.sends (seen_plans names) (option_map (manager.sent_of (seen_plans names) names) (let none : Option (machine.Sending (seen_plans names).words) = None in cond b (machine.sends_at (seen_plans names).words (stage_of names phase) (counts_of names t.manager.answered)) none)) (seen_lab names made (record x { manager = t.manager }))
          ≡ seen_lab names made (cond b (sends names (open_in names phase) (record x { manager = t.manager })) (record x { manager = t.manager }))
      at false phase = refl
      at true Fresh = refl
      at true (Open heeded task bodies) = sent (asked_for names task bodies) (machine.count_of (bus_of (asked_for names task bodies)) (counts_of names t.manager.answered)) (count_so (bus_of (asked_for names task bodies)) t.manager.answered)
      at true Done = refl
      at true (Halted k why) = refl
      at true Undone = refl
      at true (UndoRefused k code) = refl

  -- ---- calls

  -- the model's lab is this one
  pub record IsSeen (y : lab.Lab (seen_plans names)) (x : Lab) : Type 0 where
    pub made : SeenManager
    pub is : y ≡ seen_lab names made x

  pub call_lands : (call : Call) (made : SeenManager) (x : Lab)
      → IsSeen (lab.call_does (seen_plans names) (manager.called (seen_plans names) (seen_call call) (seen_manager names made.manager x.manager)) (seen_lab names made x)) (goes_on names (called call x.manager.phase x.manager) x)
  unfolding manager.called
  call_lands call made x =
      at (machine.call_of (seen_plans names).words (seen_call call) (machine_of names x.manager))
      (subst (λ (o : Option (machine.Turn (seen_plans names).words)). IsTurn names call made.manager o x.manager (called call x.manager.phase x.manager)) (sym (turns_at names call (machine_of names x.manager))) (call_turn names made.manager x.manager call x.manager.phase))
    where
      at : (o : Option (machine.Turn (seen_plans names).words)) → IsTurn names call made.manager o x.manager (called call x.manager.phase x.manager)
          → IsSeen (lab.call_does (seen_plans names) (option_map (manager.goes_on (seen_plans names) (record (seen_manager names made.manager x.manager) { joined = manager.waits_after (seen_plans names) (seen_call call) (seen_manager names made.manager x.manager).joined })) o) (seen_lab names made x))
          (goes_on names (called call x.manager.phase x.manager) x)
      at None e = record { made = made; is = ap (λ (t : Turn). seen_lab names made (goes_on names t x)) (sym e) }
      at (Some T) e =
          let t = called call x.manager.phase x.manager in
          let then : SeenManager = record made { manager = e.1.made_then } in
          record {
            made = then;
            is = (λ i. lab.manager_does (seen_plans names) (manager.goes_on (seen_plans names) (record (seen_manager names made.manager x.manager) { joined = e.1.is i }) (e.0 i)) (seen_lab names made x))
                ∙ turn_lands t then x;
          }

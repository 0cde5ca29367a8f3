-- An honest event is one of the model's, and packets that join live ones here do so there.
use Rattle.std.proofs.Common.{◌≡◌, ℕ, ◌+◌, ◌≤◌, Bool, true, false, cond, List, [], ◌∷◌, ◌++◌, map, Option, Some, None, refl, sym, ◌∙◌, ap, subst}
use Rattle.std.specs.Prelude.{IfSome}
use Rattle.std.proofs.lemmas.Option.{none-some}
use Rattle.two_wire.specs.declared.Bus.{Bus}
use Rattle.two_wire.specs.declared.Bus.TheVariants.{Ipmb, Smbus}
use Rattle.mctp_net.specs.declared.packet.Packet.{Packet}
use Rattle.record_base.specs.declared.message.Asked.{Asked}
use Rattle.record_base.specs.declared.message.Asked.TheVariants.{Ipmi, Pldm}
use Rattle.cfg_records.specs.declared.board_file.BoardFile.{BoardFile}
use Rattle.undo_plans.specs.declared.names.Names.{Names}
use Rattle.model_bus.specs.Circle.{span_of}
use Rattle.model_undo.specs.Machine as machine
use Rattle.model_lab.specs.Lab as lab
use Rattle.model_lab.specs.Faults.{begun_on, is_open_bus}
use Rattle.model_lab.specs.Honest as honest
use Rattle.model_lab.specs.Joins as joins
use Rattle.model_headline.specs.Frames.{Value, Asks, Tells, Part, span, is_taken}
use Rattle.model_headline.specs.Manager.{Phase, Fresh, Open, Done, Halted, Undone, UndoRefused, asked_for, open_in}
use Rattle.model_headline.specs.Lab.{Way, ToPort, ToManager, Event, Calls, ToBmc, ToMgr, OtherIpmb, OtherSmbus, Noise, Idles, OnBench, Lab, step, run}
use Rattle.model_headline.specs.Claim.{ours, open_on, begun, IsDelivered, JoinsLive, IsHonest, AllHonest}
use Rattle.model_headline.proofs.Packets.{Agrees, is_kept}
use Rattle.model_headline.proofs.Sends.{idles_on_alike}
use Rattle.model_headline.proofs.Labs.{there, step_so}
use Rattle.model_headline.specs.Seen.{seen_plans, seen_words, seen_value, seen_way, seen_frame, seen_event, seen_lab, SeenManager, part_of, stage_of, counts_of, machine_of}
use Rattle.model_headline.proofs.Holds.{Holds}

none_same : (asked : Asked) → Some asked ≡ None → ⊥
none_same asked e = none-some asked (sym e)

module _ (setup : BoardFile) (names : Names) where
  -- ---- how many requests were begun

  open_asked : (on : Bus) (asked : Asked) (bodies : List (List ℕ)) → cond (machine.same_bus on (machine.bus_at (seen_words names) (part_of names asked bodies))) 1 0 ≡ open_on on (Some asked)
  open_asked Ipmb (Ipmi from net_fn lun command body) bodies = refl
  open_asked Ipmb (Pldm from kind command body) bodies = refl
  open_asked Smbus (Ipmi from net_fn lun command body) bodies = refl
  open_asked Smbus (Pldm from kind command body) bodies = refl

  open_none : (on : Bus) → 0 ≡ open_on on None
  open_none Ipmb = refl
  open_none Smbus = refl

  open_so : (on : Bus) (phase : Phase) → cond (is_open_bus on (machine.open_bus_at (seen_words names) (stage_of names phase))) 1 0 ≡ open_on on (open_in names phase)
  open_so on Fresh = open_none on
  open_so on (Open heeded task bodies) = open_asked on (asked_for names task bodies) bodies
  open_so on Done = open_none on
  open_so on (Halted k why) = open_none on
  open_so on Undone = open_none on
  open_so on (UndoRefused k code) = open_none on

  count_is : (on : Bus) (answered : Bus → ℕ) → machine.count_of on (counts_of names answered) ≡ answered on
  count_is Ipmb answered = refl
  count_is Smbus answered = refl

  pub begun_so : (on : Bus) (x : Lab) → begun_on (seen_words names) on (machine_of names x.manager) ≡ begun names on x
  begun_so on x = λ i. count_is on x.manager.answered i + open_so on x.manager.phase i

  pub span_so : (on : Bus) → span_of on ≡ span on
  span_so Ipmb = refl
  span_so Smbus = refl

  none_open : (phase : Phase) → open_in names phase ≡ None → machine.open_bus_at (seen_words names) (stage_of names phase) ≡ None
  none_open Fresh e = refl
  none_open (Open heeded task bodies) e = absurd (none_same (asked_for names task bodies) e)
  none_open Done e = refl
  none_open (Halted k why) e = refl
  none_open Undone e = refl
  none_open (UndoRefused k code) e = refl

  -- ---- events

  module _ (made : SeenManager) (x : Lab) (h : Holds names x) where
    delivered_so : (way : Way) (place : ℕ) → IsDelivered names way x place → honest.IsDelivered (seen_plans names) (seen_way way) (seen_lab names made x) place
    delivered_so way place is = record {
      frame = seen_frame is.frame;
      sent = there setup names x place is.frame is.sent;
      meant = ap seen_way is.meant;
      live = record {
        recent = subst (λ n. n ≤ is.frame.request + span_of is.frame.on) (sym (begun_so is.frame.on x)) (subst (λ n. begun names is.frame.on x ≤ is.frame.request + n) (sym (span_so is.frame.on)) is.recent);
        remembered = is.remembered ∙ sym (idles_on_alike names is.frame.on made x);
      };
    }

    pub honest_so : (e : Event) → IsHonest (ours setup) names x e → honest.HasBytes (seen_plans names) (seen_event e) → honest.IsHonest (seen_plans names) (seen_lab names made x) (seen_event e)
    honest_so (Calls call) is bytes = tt
    honest_so (ToBmc place) is bytes = delivered_so ToPort place is.0
    honest_so (ToMgr place) is bytes = delivered_so ToManager place is
    honest_so (OtherIpmb r) is bytes = is
    honest_so (OtherSmbus m) is bytes = is
    honest_so (Noise on noise) is bytes = is bytes
    honest_so (Idles on requester) is bytes = λ own. none_open x.manager.phase (is own)
    honest_so (OnBench activity) is bytes = tt

    taken_so : (b : Bool) (p : Packet) → Agrees p x.smbus.waits made.smbus h.smbus_orderly b None → b ≡ true
    taken_so true p agrees = refl
    taken_so false p agrees = absurd agrees

    joins_value : (v : Value) → JoinsLive (ours setup) names x v → joins.JoinsLive (seen_plans names) (seen_lab names made x) (seen_value v)
    joins_value (Asks r) live = tt
    joins_value (Tells r) live = tt
    joins_value (Part p) live = λ no_start goes_there none.
        subst (λ n. n ≤ x.opened p.envelope.tag + 8) (sym (begun_so Smbus x))
        (live no_start goes_there (taken_so (is_taken x.smbus.eid p x.smbus.waits) p
        (subst (Agrees p x.smbus.waits made.smbus h.smbus_orderly (is_taken x.smbus.eid p x.smbus.waits)) none (is_kept p x.smbus.waits made.smbus h.smbus_orderly x.smbus.eid).agrees)))

    pub joins_so : (e : Event) → IsHonest (ours setup) names x e → joins.IsJoinLive (seen_plans names) (seen_lab names made x) (seen_event e)
    joins_so (ToBmc place) is =
        subst (λ (o : Option lab.LabFrame). IfSome o (λ f. joins.JoinsLive (seen_plans names) (seen_lab names made x) f.value)) (sym (there setup names x place is.0.frame is.0.sent)) (joins_value is.0.frame.value is.1)
    joins_so (Calls call) is = tt
    joins_so (ToMgr place) is = tt
    joins_so (OtherIpmb r) is = tt
    joins_so (OtherSmbus m) is = tt
    joins_so (Noise on bytes) is = tt
    joins_so (Idles on requester) is = tt
    joins_so (OnBench activity) is = tt

  -- ---- schedules

  -- the model's lab runs as this one does, by honest events whose packets join live ones
  pub record Runs (events : List Event) (made : SeenManager) (x : Lab) : Type 0 where
    pub made_then : SeenManager
    pub is : lab.run (seen_plans names) setup (map seen_event events) (seen_lab names made x) ≡ seen_lab names made_then (run (ours setup) names events x)
    pub holds : Holds names (run (ours setup) names events x)
    pub honest : honest.AllHonest (seen_plans names) setup (map seen_event events) (seen_lab names made x)
    pub live : joins.AllJoinLive (seen_plans names) setup (map seen_event events) (seen_lab names made x)

  pub runs_so : (events : List Event) (made : SeenManager) (x : Lab) → Holds names x → AllHonest (ours setup) names events x → Runs events made x
  unfolding lab.run run
  runs_so [] made x h all = record { made_then = made; is = refl; holds = h; honest = tt; live = tt }
  runs_so (e ∷ es) made x h all =
      let one = step_so setup names made x h e all.0 in
      let rest = runs_so es one.made (step (ours setup) names x e) one.holds all.1 in
      record {
        made_then = rest.made_then;
        is = ap (lab.run (seen_plans names) setup (map seen_event es)) one.is ∙ rest.is;
        holds = rest.holds;
        honest = (honest_so made x h e all.0, subst (honest.AllHonest (seen_plans names) setup (map seen_event es)) (sym one.is) rest.honest);
        live = (joins_so made x h e all.0, subst (joins.AllJoinLive (seen_plans names) setup (map seen_event es)) (sym one.is) rest.live);
      }

  -- ---- parts of a schedule

  pub first_honest : (events later : List Event) (x : Lab) → AllHonest (ours setup) names (events ++ later) x → AllHonest (ours setup) names events x
  first_honest [] later x all = tt
  first_honest (e ∷ es) later x all = (all.0, first_honest es later (step (ours setup) names x e) all.1)

  pub later_honest : (events later : List Event) (x : Lab) → AllHonest (ours setup) names (events ++ later) x → AllHonest (ours setup) names later (run (ours setup) names events x)
  unfolding run
  later_honest [] later x all = all
  later_honest (e ∷ es) later x all = later_honest es later (step (ours setup) names x e) all.1

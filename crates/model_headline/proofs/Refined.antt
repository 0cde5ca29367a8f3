-- An event that is honest in the machinery is honest in the statement.
use Rattle.std.proofs.Common.{◌≡◌, ℕ, ◌+◌, ◌≤◌, Bool, true, List, [], ◌∷◌, map, Option, Some, None, refl, sym, ◌∙◌, ap, subst, ◌↔◌}
use Rattle.std.specs.Prelude.{slice_get, IfSome}
use Rattle.std.specs.Option.{option_map}
use Rattle.std.proofs.lemmas.Option.{none-some, same_Some, slice_get-map}
use Rattle.two_wire.specs.declared.Bus.TheVariants.{Smbus}
use Rattle.mctp_net.specs.declared.packet.Packet.{Packet}
use Rattle.mctp_net.specs.declared.taken.DropCause.{DropCause}
use Rattle.mctp_net.specs.Assembly.{drop_cause}
use Rattle.record_base.specs.declared.op.Op.{Op}
use Rattle.cfg_records.specs.declared.board_file.BoardFile.{BoardFile}
use Rattle.undo_plans.specs.declared.names.Names.{Names}
use Rattle.model_undo.specs.Machine as machine
use Rattle.model_lab.specs.Lab as lab
use Rattle.model_lab.specs.Faults.{begun_on}
use Rattle.model_lab.specs.Honest as honest
use Rattle.model_lab.specs.Joins as joins
use Rattle.model_headline.specs.Theorem as law
use Rattle.model_headline.specs.Frames.{Value, Asks, Tells, Part, span}
use Rattle.model_headline.specs.Manager.{Start, Quiet, Stop, Again, Undo, Phase, Fresh, Open, Done, Halted, Undone, UndoRefused, asked_for, open_in}
use Rattle.model_headline.specs.Lab.{Way, ToPort, ToManager, ToOthers, Frame, Event, Calls, ToBmc, ToMgr, OtherIpmb, OtherSmbus, Noise, Idles, OnBench, Lab, step}
use Rattle.model_headline.specs.Claim.{ours, IsDelivered, JoinsLive, IsHonest, AllHonest, first}
use Rattle.model_headline.specs.Seen.{seen_plans, seen_words, part_of, stage_of, machine_of, seen_as, seen_value, seen_way, seen_frame, seen_event, seen_lab, SeenManager}
use Rattle.model_headline.proofs.Holds.{Holds}
use Rattle.model_headline.proofs.Packets.{Agrees, is_kept}
use Rattle.model_headline.proofs.Sends.{idles_on_alike}
use Rattle.model_headline.proofs.Labs.{step_so}
use Rattle.model_headline.proofs.Honesty.{begun_so, span_so}
use Rattle.model_headline.proofs.Claim.{nothing_made, start_holds, ran}
use Rattle.model_lab.specs.declared.way.Way.TheVariants as lab_way
use Rattle.model_undo.specs.declared.call.Call.TheVariants as lab_call

-- ---- every event

record Here (e : lab.Event) : Type 0 where
  pub event : Event
  pub same : e ≡ seen_event event

here : (e : lab.Event) → Here e
here (lab.Calls lab_call.Start) = record { event = Calls Start; same = refl }
here (lab.Calls lab_call.Quiet) = record { event = Calls Quiet; same = refl }
here (lab.Calls lab_call.Stop) = record { event = Calls Stop; same = refl }
here (lab.Calls lab_call.Again) = record { event = Calls Again; same = refl }
here (lab.Calls lab_call.Undo) = record { event = Calls Undo; same = refl }
here (lab.ToBmc place) = record { event = ToBmc place; same = refl }
here (lab.ToMgr place) = record { event = ToMgr place; same = refl }
here (lab.OtherIpmb r) = record { event = OtherIpmb r; same = refl }
here (lab.OtherSmbus m) = record { event = OtherSmbus m; same = refl }
here (lab.Noise on bytes) = record { event = Noise on bytes; same = refl }
here (lab.Idles on requester) = record { event = Idles on requester; same = refl }
here (lab.OnBench activity) = record { event = OnBench activity; same = refl }

pub all_here : (es : List lab.Event) → (same : List Event) × (es ≡ map seen_event same)
all_here [] = ([], refl)
all_here (e ∷ es) =
    let one = here e in
    let rest = all_here es in
    (one.event ∷ rest.0, λ i. one.same i ∷ rest.1 i)

way_here : (w v : Way) → seen_way w ≡ seen_way v → w ≡ v
way_here ToPort ToPort e = refl
way_here ToPort ToManager e = absurd cc
way_here ToPort ToOthers e = absurd cc
way_here ToManager ToPort e = absurd cc
way_here ToManager ToManager e = refl
way_here ToManager ToOthers e = absurd cc
way_here ToOthers ToPort e = absurd cc
way_here ToOthers ToManager e = absurd cc
way_here ToOthers ToOthers e = refl

-- the frame that was sent
record Sent (x : Lab) (place : ℕ) (g : lab.LabFrame) : Type 0 where
  pub frame : Frame
  pub sent : slice_get x.frames place ≡ Some frame
  pub same : seen_frame frame ≡ g

sent_here : (x : Lab) (place : ℕ) (g : lab.LabFrame) → slice_get (map seen_frame x.frames) place ≡ Some g → Sent x place g
sent_here x place g e = at (slice_get x.frames place) refl (sym (slice_get-map seen_frame x.frames place) ∙ e)
  where
    at : (o : Option Frame) → slice_get x.frames place ≡ o → option_map seen_frame o ≡ Some g → Sent x place g
    at None there e = absurd (none-some g e)
    at (Some f) there e = record { frame = f; sent = there; same = same_Some (seen_frame f) g e }

module _ (setup : BoardFile) (names : Names) where
  module _ (made : SeenManager) (x : Lab) (h : Holds names x) where
    delivered_here : (way : Way) (place : ℕ) → honest.IsDelivered (seen_plans names) (seen_way way) (seen_lab names made x) place → IsDelivered names way x place
    delivered_here way place is =
        let s = sent_here x place is.frame is.sent in
        let live : honest.IsLive (seen_plans names) (seen_lab names made x) (seen_frame s.frame) = subst (honest.IsLive (seen_plans names) (seen_lab names made x)) (sym s.same) is.live in
        record {
          frame = s.frame;
          sent = s.sent;
          meant = way_here s.frame.way way (ap (λ (f : lab.LabFrame). f.way) s.same ∙ is.meant);
          recent = subst (λ n. n ≤ s.frame.request + span s.frame.on) (begun_so setup names s.frame.on x) (subst (λ n. begun_on (seen_words names) s.frame.on (machine_of names x.manager) ≤ s.frame.request + n) (span_so setup names s.frame.on) live.recent);
          remembered = live.remembered ∙ idles_on_alike names s.frame.on made x;
        }

    none_dropped : (cause : Option DropCause) (p : Packet) → Agrees p x.smbus.waits made.smbus h.smbus_orderly true cause → cause ≡ None
    none_dropped None p agrees = refl
    none_dropped (Some cause) p agrees = absurd agrees

    joins_here : (v : Value) → joins.JoinsLive (seen_plans names) (seen_lab names made x) (seen_value v) → JoinsLive (ours setup) names x v
    joins_here (Asks r) live = tt
    joins_here (Tells r) live = tt
    joins_here (Part p) live = λ no_start goes_there taken.
        subst (λ n. n ≤ x.opened p.envelope.tag + 8) (begun_so setup names Smbus x)
        (live no_start goes_there (none_dropped (drop_cause x.smbus.eid (seen_as x.smbus.waits made.smbus) p) p
        (subst (λ (b : Bool). Agrees p x.smbus.waits made.smbus h.smbus_orderly b (drop_cause x.smbus.eid (seen_as x.smbus.waits made.smbus) p)) taken (is_kept p x.smbus.waits made.smbus h.smbus_orderly x.smbus.eid).agrees)))

    none_here : (phase : Phase) → machine.open_bus_at (seen_words names) (stage_of names phase) ≡ None → open_in names phase ≡ None
    none_here Fresh e = refl
    none_here (Open heeded task bodies) e = absurd (none-some (machine.bus_at (seen_words names) (part_of names (asked_for names task bodies) bodies)) (sym e))
    none_here Done e = refl
    none_here (Halted k why) e = refl
    none_here Undone e = refl
    none_here (UndoRefused k code) e = refl

    to_port_here : (place : ℕ) → honest.IsDelivered (seen_plans names) lab_way.ToPort (seen_lab names made x) place → joins.IsJoinLive (seen_plans names) (seen_lab names made x) (lab.ToBmc place) → IsHonest (ours setup) names x (ToBmc place)
    to_port_here place is live =
        let d = delivered_here ToPort place is in
        let there : slice_get (map seen_frame x.frames) place ≡ Some (seen_frame d.frame) = slice_get-map seen_frame x.frames place ∙ ap (option_map seen_frame) d.sent in
        (d, joins_here d.frame.value (subst (λ (o : Option lab.LabFrame). IfSome o (λ f. joins.JoinsLive (seen_plans names) (seen_lab names made x) f.value)) there live))

    honest_here : (e : Event) → (honest.HasBytes (seen_plans names) (seen_event e) → honest.IsHonest (seen_plans names) (seen_lab names made x) (seen_event e)) → joins.IsJoinLive (seen_plans names) (seen_lab names made x) (seen_event e) → IsHonest (ours setup) names x e
    honest_here (Calls call) is live = tt
    honest_here (ToBmc place) is live = to_port_here place (is tt) live
    honest_here (ToMgr place) is live = delivered_here ToManager place (is tt)
    honest_here (OtherIpmb r) is live = is tt
    honest_here (OtherSmbus m) is live = is tt
    honest_here (Noise on bytes) is live = is
    honest_here (Idles on requester) is live = λ own. none_here x.manager.phase (is tt own)
    honest_here (OnBench activity) is live = tt

  all_honest : (events : List Event) (made : SeenManager) (x : Lab) → Holds names x → honest.AllHonest (seen_plans names) setup (map seen_event events) (seen_lab names made x) → joins.AllJoinLive (seen_plans names) setup (map seen_event events) (seen_lab names made x) → AllHonest (ours setup) names events x
  all_honest [] made x h all live = tt
  all_honest (e ∷ es) made x h all live =
      let is = honest_here made x h e all.0 live.0 in
      let one = step_so setup names made x h e is in
      (is, all_honest es one.made (step (ours setup) names x e) one.holds (subst (honest.AllHonest (seen_plans names) setup (map seen_event es)) one.is all.1) (subst (joins.AllJoinLive (seen_plans names) setup (map seen_event es)) one.is live.1))

pub honest_alike : (setup : BoardFile) (names : Names) (plan : List Op) (retries : ℕ) (events : List Event)
    → AllHonest (ours setup) names events (first setup (ours setup) names plan retries) ↔ law.IsTrusted setup names plan retries (map seen_event events)
honest_alike setup names plan retries events =
    ((λ all. let g = ran setup names plan retries events all in (g.honest, g.live)), (λ trusted. all_honest setup names events nothing_made (first setup (ours setup) names plan retries) (start_holds setup names plan retries) trusted.0 trusted.1))

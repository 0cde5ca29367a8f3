-- What is live in a lab is live in the model.
use Rattle.std.proofs.Common.{◌≡◌, ℕ, ◌+◌, ◌≤◌, Bool, true, cond, List, length, Option, Some, None, refl, sym, ◌∙◌, ap, subst, arith, inl, inr}
use Rattle.two_wire.specs.declared.Bus.{Bus}
use Rattle.two_wire.specs.declared.Bus.TheVariants.{Ipmb, Smbus}
use Rattle.record_base.specs.declared.op.Op.{Op}
use Rattle.cfg_records.specs.declared.board_file.BoardFile.{BoardFile}
use Rattle.cfg_records.specs.Records.{Records}
use Rattle.model_bus.specs.Circle.{span_of}
use Rattle.model_bus.specs.BusState.{Frame}
use Rattle.model_bus.specs.Schedule.{IsLive as IsLiveThere}
use Rattle.model_bus.specs.Answering.{TestsAgree}
use Rattle.model_bus.proofs.NumberLaws.{IsNumbering, ipmb_numbers, smbus_numbers}
use Rattle.model_bus.proofs.Steps.{Holds as BusHolds}
use Rattle.model_bus.proofs.Answering.{tests_agree}
use Rattle.model_bus.proofs.Cutting.{packets_cut}
use Rattle.model_undo.specs.Machine.{Stage, AtStart, Opened, AtEnd, AtHalt, AtUndone, AtRefused, bus_at, open_bus_at, count_of, same_bus}
use Rattle.model_undo.specs.Joined.{IsClosed, AreOpen}
use Rattle.model_undo.specs.World.{States}
use Rattle.model_undo.proofs.Buses.{cases_bus}
use Rattle.model_undo.proofs.TwoBuses.{packet_lines}
use Rattle.model_undo.proofs.LineLaws.{AllHold, whole_is_line, packets_are_line}
use Rattle.undo_plans.specs.declared.names.Names.{Names}
use Rattle.model_lab.specs.Lab.{LabFrame, Lab, idles_on}
use Rattle.model_lab.specs.Faults.{is_open_bus, begun_on}
use Rattle.model_lab.specs.Honest.{IsLive}
use Rattle.model_headline.specs.Tied.{own_plans, own_family, own_lines, own_wires, ipmb_bus, smbus_bus, rules_on, requests, IsTied, world_of}
use Rattle.model_headline.proofs.Begun.{words}
use Rattle.model_headline.proofs.Sent.{idles_alike}
use Rattle.model_headline.specs.Follows.{HoldsInWorld}

module _ (setup : BoardFile) (names : Names) (plan : List Op) (start : Records) where
  numbering : (bus : Bus) → IsNumbering (rules_on setup names bus)
  numbering Ipmb = ipmb_numbers names.own_address names.peer_address 0
  numbering Smbus = smbus_numbers names.own_eid names.peer_eid 0

  -- ---- the invariants of the buses

  pub ipmb_holds : (x : Lab (own_plans setup names)) (on : States (own_lines setup names)) → HoldsInWorld setup names plan start (world_of setup names x on) → BusHolds (ipmb_bus setup names) (on Ipmb)
  unfolding packet_lines whole_is_line
  ipmb_holds x on h = h.holds Ipmb

  pub smbus_holds : (x : Lab (own_plans setup names)) (on : States (own_lines setup names)) → HoldsInWorld setup names plan start (world_of setup names x on) → AllHold (smbus_bus setup names) packets_cut (on Smbus)
  unfolding packet_lines packets_are_line
  smbus_holds x on h = h.holds Smbus

  module _ (x : Lab (own_plans setup names)) (on : States (own_lines setup names)) (tied : IsTied setup names x on) (h : HoldsInWorld setup names plan start (world_of setup names x on)) where
    pub ipmb_agrees : TestsAgree Ipmb (ipmb_bus setup names) (on Ipmb)
    ipmb_agrees = tests_agree Ipmb (ipmb_bus setup names) (numbering Ipmb) (on Ipmb) (ipmb_holds x on h) (tied.written Ipmb)

    pub smbus_agrees : TestsAgree Smbus (rules_on setup names Smbus) (on Smbus).bus
    smbus_agrees = tests_agree Smbus (rules_on setup names Smbus) (numbering Smbus) (on Smbus).bus (smbus_holds x on h).1.holds (tied.written Smbus)

    -- ---- how many requests were begun

    same_bus-self : (bus : Bus) → same_bus bus bus ≡ true
    same_bus-self Ipmb = refl
    same_bus-self Smbus = refl

    closed_begun : (bus : Bus) (opened : Option Bus) → IsClosed (requests setup names on bus) → length (requests setup names on bus).begun ≤ count_of bus x.manager.machine.counts + (cond (is_open_bus bus opened) 1 0)
    closed_begun bus opened closed =
        let below : length (requests setup names on bus).begun ≤ length (requests setup names on bus).taken = closed in
        let same = tied.counted bus in omega arith

    begun_by : (stage : Stage (words setup names)) (bus : Bus) → AreOpen (own_family setup names) (own_wires setup names) (λ b. 0) stage bus (requests setup names on bus)
        → length (requests setup names on bus).begun ≤ count_of bus x.manager.machine.counts + (cond (is_open_bus bus (open_bus_at (words setup names) stage)) 1 0)
    begun_by (Opened heeded task part) bus opened = elim (cases_bus bus (bus_at (words setup names) part)) [
      | inl same ↦
          let one : is_open_bus bus (Some (bus_at (words setup names) part)) ≡ true = subst (λ (b : Bus). same_bus bus b ≡ true) same (same_bus-self bus) in
          let most = (h.joined.orderly bus).one_open in
          let counts = tied.counted bus in
          let here : ◌≡◌ {A = ℕ} (cond {A = ℕ} (is_open_bus bus (open_bus_at (words setup names) (Opened heeded task part))) 1 0) 1 = ap (λ (t : Bool). cond t 1 0) one in
          omega (arith, here, most, counts)
      | inr other ↦ closed_begun bus (Some (bus_at (words setup names) part)) (opened.1 other)
    ]
    begun_by AtStart bus closed = closed_begun bus None closed
    begun_by AtEnd bus closed = closed_begun bus None closed
    begun_by (AtHalt k why) bus closed = closed_begun bus None closed
    begun_by AtUndone bus closed = closed_begun bus None closed
    begun_by (AtRefused k code) bus closed = closed_begun bus None closed

    -- the model began no more requests than the lab's manager did
    pub most_begun : (bus : Bus) → length (requests setup names on bus).begun ≤ begun_on (words setup names) bus x.manager.machine
    most_begun bus = begun_by x.manager.machine.stage bus (h.joined.are_open bus)

    spans_alike : (bus : Bus) → (rules_on setup names bus).span ≡ span_of bus
    spans_alike Ipmb = refl
    spans_alike Smbus = refl

    -- a live frame of the lab is live in the model
    pub live_there : (f : LabFrame) (g : Frame) (bus : Bus) → f.on ≡ bus → IsLive (own_plans setup names) x f → g.request ≡ f.request → g.idles ≡ f.idles → IsLiveThere (rules_on setup names bus) (requests setup names on bus) g
    live_there f g bus at live request idles =
        let most = begun_by x.manager.machine.stage bus (h.joined.are_open bus) in
        let recent : begun_on (words setup names) bus x.manager.machine ≤ f.request + span_of bus = subst (λ (b : Bus). begun_on (words setup names) b x.manager.machine ≤ f.request + span_of b) at live.recent in
        let span = spans_alike bus in
        let remembered : f.idles ≡ idles_on (own_plans setup names) bus x = subst (λ (b : Bus). f.idles ≡ idles_on (own_plans setup names) b x) at live.remembered in
        (omega (arith, request), idles ∙ remembered ∙ sym (idles_alike setup names bus x on tied))

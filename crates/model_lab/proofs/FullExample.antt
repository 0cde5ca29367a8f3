-- Each request of another is answered, so the lab fills up.
use Rattle.std.proofs.Common.{◌≡◌, ℕ, zero, suc, ◌+◌, ◌<◌, ◌≤◌, false, cond, [], ◌∷◌, length, map, Option, Some, None, refl, sym, ◌∙◌, ap, subst, arith, length-append}
use Rattle.std.specs.Prelude.{◌==◌, nat_le}
use Rattle.std.proofs.lemmas.Bool.Decides.{nat_tests}
use Rattle.std.proofs.lemmas.List.{length-map}
use Rattle.two_wire.specs.declared.Bus.TheVariants.{Ipmb}
use Rattle.undo_plans.specs.declared.names.Names.{Names}
use Rattle.bmc_core.specs.Values.{Asks}
use Rattle.bmc_core.specs.PortSteps.{StepResult, stays, hears, hears_request}
use Rattle.model_lab.specs.declared.way.Way.TheVariants.{ToOthers}
use Rattle.model_lab.specs.Lab.{Lab, frame_now, with_port, port_does, step, run}
use Rattle.model_lab.specs.declared.fault.Fault.{Fault}
use Rattle.model_lab.specs.declared.fault.Fault.TheVariants.{Room, Impersonates}
use Rattle.model_lab.specs.Faults.{most_frames, check, first_of, is_own, fault_of, AllTaken}
use Rattle.model_lab.specs.Example.{board_file, plans, names, one_step, start, other_request}
use Rattle.model_lab.specs.FullExample.{reserves, times, FillsUp}

-- the port has its address, the names are what they were, and so many frames were sent
record Has (n : ℕ) (x : Lab plans) : Type 0 where
  wire : x.ipmb.wire ≡ 0x20
  named : x.manager.names ≡ names
  frames : length x.frames ≡ n

abbrev asked : Lab plans → StepResult
asked x = hears_request board_file x.ipmb x.board (other_request 0x40 10 0x42 [])

heard-here : (x : Lab plans) → x.ipmb.wire ≡ 0x20 → hears board_file x.ipmb x.board (Asks (other_request 0x40 10 0x42 [])) ≡ asked x
heard-here x e = ap (λ w. cond (0x20 == w) (asked x) (stays x.ipmb x.board)) e

one-sent : (x : Lab plans) → length (asked x).sent ≡ 1
unfolding hears_request
one-sent x = refl

same-wire : (x : Lab plans) → (asked x).port.wire ≡ x.ipmb.wire
unfolding hears_request
same-wire x = refl

step-is : (x : Lab plans) → step plans board_file x reserves ≡ port_does plans Ipmb ToOthers 0 (hears board_file x.ipmb x.board (Asks (other_request 0x40 10 0x42 []))) x
unfolding step
step-is x = refl

-- one more is sent
one-more : (n : ℕ) (x : Lab plans) → Has n x → Has (n + 1) (step plans board_file x reserves)
one-more n x h =
    let d : StepResult = hears board_file x.ipmb x.board (Asks (other_request 0x40 10 0x42 [])) in
    let e : d ≡ asked x = heard-here x h.wire in
    let one : length d.sent ≡ 1 = ap (λ (f : StepResult). length f.sent) e ∙ one-sent x in
    let next : step plans board_file x reserves ≡ port_does plans Ipmb ToOthers 0 d x = step-is x in
    subst (Has (n + 1)) (sym next) (record {
      wire = ap (λ (f : StepResult). f.port.wire) e ∙ same-wire x ∙ h.wire;
      named = h.named;
      frames = length-append x.frames (map (frame_now plans Ipmb ToOthers 0 (with_port plans Ipmb d.port (record x { board = d.board }))) d.sent)
          ∙ ap (λ k. length x.frames + k) (length-map d.sent (frame_now plans Ipmb ToOthers 0 (with_port plans Ipmb d.port (record x { board = d.board }))) ∙ one)
          ∙ ap (λ k. k + 1) h.frames;
    })

at-first : Has 0 (start one_step 3)
at-first = record { wire = refl; named = refl; frames = refl }

-- with so many frames the request has no fault but want of room
fault-is : (n : ℕ) (x : Lab plans) → Has n x → fault_of plans x reserves ≡ (let none : Option Fault = None in cond (nat_le most_frames n) (Some Room) none)
fault-is n x h =
    ap (λ (who : Names). first_of (check Impersonates (is_own Ipmb who 0x40) ∷ check Room (nat_le most_frames (length x.frames)) ∷ [])) h.named
    ∙ ap (λ k. let none : Option Fault = None in cond (nat_le most_frames k) (Some Room) none) h.frames

free : (n : ℕ) (x : Lab plans) → Has n x → n < most_frames → fault_of plans x reserves ≡ None
free n x h few =
    let room : nat_le most_frames n ≡ false = grind (arith, nat_tests) in
    fault-is n x h ∙ ap (λ t. let none : Option Fault = None in cond t (Some Room) none) room

all-taken : (more n : ℕ) (x : Lab plans) → Has n x → n + more ≤ most_frames → AllTaken plans board_file (times more reserves) x
unfolding times
all-taken zero n x h few = tt
all-taken (suc more) n x h few = (free n x h (omega (arith, few)), all-taken more (n + 1) (step plans board_file x reserves) (one-more n x h) (omega (arith, few)))

all-sent : (more n : ℕ) (x : Lab plans) → Has n x → Has (n + more) (run plans board_file (times more reserves) x)
unfolding times run
all-sent zero n x h = let e : n ≡ n + 0 = omega arith in subst (λ k. Has k x) e h
all-sent (suc more) n x h =
    let e : n + 1 + more ≡ n + suc more = omega arith in
    subst (λ k. Has k (run plans board_file (times more reserves) (step plans board_file x reserves))) e (all-sent more (n + 1) (step plans board_file x reserves) (one-more n x h))

pub fills_up : FillsUp
fills_up =
    let h : Has (0 + most_frames) (run plans board_file (times most_frames reserves) (start one_step 3)) = all-sent most_frames 0 (start one_step 3) at-first in
    record {
      taken = all-taken most_frames 0 (start one_step 3) at-first (omega arith);
      frames = h.frames;
      room = fault-is most_frames (run plans board_file (times most_frames reserves) (start one_step 3)) h;
    }

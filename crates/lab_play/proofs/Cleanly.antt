-- Clean schedules: events that deliver all frames are the only ones that do.
use Rattle.std.proofs.Common.{◌≡◌, ◌<◌, ◌+◌, ℕ, zero, suc, Bool, true, false, not, cond, List, [], ◌∷◌, ◌++◌, length, Option, Some, None, refl, sym, ◌∙◌, ap, subst, arith}
use Rattle.std.specs.Prelude.{slice_get, nat_le}
use Rattle.std.proofs.lemmas.Bool.Decides.{nat_tests}
use Rattle.std.proofs.lemmas.Option.{none-some, same_Some}
use Rattle.cfg_records.specs.declared.board_file.BoardFile.{BoardFile}
use Rattle.model_undo.specs.declared.call.Call.{Call as Called}
use Rattle.text_lines.specs.declared.event.Event.{Event}
use Rattle.model_lab.specs.declared.way.Way.{Way}
use Rattle.model_lab.specs.declared.way.Way.TheVariants.{ToPort, ToManager, ToOthers}
use Rattle.model_lab.specs.declared.fault.Fault.{Fault}
use Rattle.model_lab.specs.declared.fault.Fault.TheVariants.{NoFrame, WrongWay, Aged, Room}
use Rattle.model_lab.specs.Lab as lab
use Rattle.model_lab.specs.Lab.{LabFrame, Lab, step, run}
use Rattle.model_lab.specs.Faults.{most_frames, same_way, is_live, is_full, check, delivery, first_of, fault_of, AllTaken}
use Rattle.model_lab.specs.Clean.{delivery_of, delivery_in, DeliversFrom}
use Rattle.model_lab.specs.Meaning.{lab_names, event_of}
use Rattle.model_lab.specs.Played.{plans, happens, after}
use Rattle.model_headline.specs.CleanPlays.{events_from}

module _ (file : BoardFile) where
  pub runs_so : (es : List Event) (x : Lab plans) → run plans file (events_from file es x) x ≡ after file es x
  unfolding run
  runs_so [] x = refl
  runs_so (e ∷ es) x = runs_so es (happens file e x)

  pub events_append : (es fs : List Event) (x : Lab plans) → events_from file (es ++ fs) x ≡ events_from file es x ++ events_from file fs (after file es x)
  events_append [] fs x = refl
  events_append (e ∷ es) fs x = ap (λ (l : List lab.Event). event_of lab_names file x.board e ∷ l) (events_append es fs (happens file e x))

  -- the lab takes those behind others
  pub taken_behind : (es fs : List lab.Event) (x : Lab plans) → AllTaken plans file (es ++ fs) x → AllTaken plans file fs (run plans file es x)
  unfolding run
  taken_behind [] fs x taken = taken
  taken_behind (e ∷ es) fs x taken = taken_behind es fs (step plans file x e) taken.1

  -- all frames are delivered by one list of events
  pub one_delivery : (es fs : List lab.Event) (number : ℕ) (x : Lab plans) → DeliversFrom plans file number es x → DeliversFrom plans file number fs x → es ≡ fs
  one_delivery [] [] number x d also = refl
  one_delivery [] (f ∷ fs) number x d also = absurd (none-some f (sym (ap (delivery_in number) d) ∙ also.0))
  one_delivery (e ∷ es) [] number x d also = absurd (none-some e (sym (ap (delivery_in number) also) ∙ d.0))
  one_delivery (e ∷ es) (f ∷ fs) number x d also =
      let same : f ≡ e = same_Some f e (sym also.0 ∙ d.0) in
      let rest = one_delivery es fs (number + 1) (step plans file x e) d.1 (subst (λ (g : lab.Event). DeliversFrom plans file (number + 1) fs (step plans file x g)) same also.1) in
      cc (same, rest)

-- ---- what the lab takes has room

pub no_check : (fault : Fault) (holds : Bool) (rest : Option Fault) → cond holds (Some fault) rest ≡ None → (holds ≡ false) × (rest ≡ None)
no_check fault true rest is = absurd (none-some fault (sym is))
no_check fault false rest is = (refl, is)

few_frames : (n : ℕ) → nat_le most_frames n ≡ false → n < most_frames
few_frames n test = grind (arith, nat_tests)

call_room : (x : Lab plans) (call : Called) → fault_of plans x (lab.Calls call) ≡ None → length x.frames < most_frames
call_room x call none = few_frames (length x.frames) (no_check Room (is_full plans x) None none).0

pub room_to_call : (x : Lab plans) (call : Called) → fault_of plans x (lab.Calls call) ≡ None → length x.frames < most_frames
room_to_call x call none = call_room x call none

there_below : {A : Type 0} (xs : List A) (i : ℕ) (x : A) → slice_get xs i ≡ Some x → i < length xs
there_below [] i x is = absurd (none-some x is)
there_below (y ∷ ys) zero x is = omega arith
there_below (y ∷ ys) (suc i) x is = let rest = there_below ys i x is in omega (arith, rest)

delivery_room : (x : Lab plans) (way : Way) (number : ℕ) (o : Option LabFrame) → slice_get x.frames number ≡ o → first_of (delivery plans way x o) ≡ None → number < most_frames
delivery_room x way number None at none = absurd (none-some NoFrame (sym none))
delivery_room x way number (Some f) at none =
    let one = no_check WrongWay (not (same_way f.way way)) (first_of (check Aged (not (is_live plans x f)) ∷ check Room (is_full plans x) ∷ [])) none in
    let two = no_check Aged (not (is_live plans x f)) (first_of (check Room (is_full plans x) ∷ [])) one.1 in
    let few = few_frames (length x.frames) (no_check Room (is_full plans x) None two.1).0 in
    let below = there_below x.frames number f at in
    omega (arith, few, below)

by_way : (x : Lab plans) (number : ℕ) (e : lab.Event) (way : Way) → delivery_of number way ≡ Some e → fault_of plans x e ≡ None → number < most_frames
by_way x number e ToPort is none =
    delivery_room x ToPort number (slice_get x.frames number) refl (subst (λ (d : lab.Event). fault_of plans x d ≡ None) (sym (same_Some (lab.ToBmc number) e is)) none)
by_way x number e ToManager is none =
    delivery_room x ToManager number (slice_get x.frames number) refl (subst (λ (d : lab.Event). fault_of plans x d ≡ None) (sym (same_Some (lab.ToMgr number) e is)) none)
by_way x number e ToOthers is none = absurd (none-some e is)

pub room_to_deliver : (x : Lab plans) (number : ℕ) (e : lab.Event) (o : Option LabFrame) → delivery_in number o ≡ Some e → fault_of plans x e ≡ None → number < most_frames
room_to_deliver x number e None is none = absurd (none-some e is)
room_to_deliver x number e (Some f) is none = by_way x number e f.way is none

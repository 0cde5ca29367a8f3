-- A look stays on the bus of its open request.
use Rattle.std.proofs.Common.{◌≡◌, inl, inr, ℕ, zero, suc, ◌+◌, ◌*◌, ◌==◌, Bool, true, false, List, Option, Some, None, refl, sym, ◌∙◌, ap, subst, if◌then◌else◌}
use Rattle.std.specs.Prelude.{nat_lt}
use Rattle.std.proofs.lemmas.Option.{same_Some}
use Rattle.two_wire.specs.declared.Bus.{Bus}
use Rattle.two_wire.specs.declared.Bus.TheVariants.{Ipmb, Smbus}
use Rattle.record_base.specs.declared.key.Key.{Key}
use Rattle.record_base.specs.declared.key.Key.TheVariants as key
use Rattle.record_base.specs.declared.message.Asked.{Asked}
use Rattle.bios_attr.specs.EntryParts.{get_part, goes_on as part_goes_on}
use Rattle.record_kinds.specs.Limits.{get_asked}
use Rattle.pldm_base.specs.Parts.{part_length}
use Rattle.model_bus.specs.Answered.{Answered}
use Rattle.model_bus.specs.Bytes.{is_busy_code}
use Rattle.undo_look.specs.declared.looker.Looker.{Looker}
use Rattle.undo_look.specs.declared.stage.Stage.{Stage}
use Rattle.undo_look.specs.declared.stage.Stage.TheVariants.{AtStart, Opened, Found, Refused}
use Rattle.undo_look.specs.declared.target.Target.{Target}
use Rattle.undo_look.specs.declared.target.Target.TheVariants.{Record}
use Rattle.undo_look.specs.Requests.{bus_of, get_at, next_behind}
use Rattle.undo_look.specs.OpenGet.{IsOpenGet}
use Rattle.undo_look.specs.Replies.{stage_with}
use Rattle.undo_look.specs.Looks.{HearsFrame, IsStepResult, LookState, asks, awaited_reply, goes_on, heeded_in, is_awaited, joins, quiet_at, rests, state_of, takes_at, takes_told}
use Rattle.app_look.specs.Driven.{IsOn, or_rests, quieted_at}

-- ---- the request behind a reply is on the same bus

gets_on : (of : Key) (parts : ℕ) (asked : Asked) (handle : ℕ) → of ≡ key.BiosAttribute handle → get_at (Record of) parts ≡ Some asked → bus_of asked ≡ Smbus
gets_on (key.BiosAttribute other) zero asked handle same is = ap bus_of (sym (same_Some (get_asked (key.BiosAttribute other)) asked is))
gets_on (key.BiosAttribute other) (suc parts) asked handle same is = ap bus_of (sym (same_Some (get_part other (part_length * suc parts)) asked is))
gets_on _ parts asked handle same is = cc same

no_next : (b : Bool) (other : Asked) → (if b then None else None) ≡ Some other → ⊥
no_next true other is = cc is
no_next false other is = cc is

next_on : (of : Target) (count : ℕ) (body : List ℕ) (asked other : Asked) (parts : ℕ) → get_at of parts ≡ Some asked → next_behind of count body ≡ Some other → bus_of other ≡ bus_of asked
next_on (Record (key.BiosAttribute handle)) count body asked other parts is next = by (part_goes_on count body) next where
  by : (b : Bool) → (if b then Some (get_part handle (part_length * count)) else None) ≡ Some other → bus_of other ≡ bus_of asked
  by true same = ap bus_of (sym (same_Some (get_part handle (part_length * count)) other same)) ∙ sym (gets_on (key.BiosAttribute handle) parts asked handle refl is)
  by false same = let both : None ≡ Some other = same in cc both
next_on _ count body asked other parts is next = absurd (no_next (part_goes_on count body) other next)

with_on : (on : Bus) (of : Target) (parts : ℕ) (asked : Asked) (body : List ℕ) (next : Option Asked) → next_behind of (parts + 1) body ≡ next → get_at of parts ≡ Some asked → bus_of asked ≡ on
    → IsOn on (stage_with of parts next)
with_on on of parts asked body (Some other) next is here = next_on of (parts + 1) body asked other parts is next ∙ here
with_on on of parts asked body None next is here = tt

told_on : (on : Bus) (of : Target) (parts : ℕ) (asked : Asked) (answered : Answered) (done : Bool) → get_at of parts ≡ Some asked → bus_of asked ≡ on
    → IsOn on (if done then stage_with of parts (next_behind of (parts + 1) answered.body) else Refused of answered.code)
told_on on of parts asked answered true is here = with_on on of parts asked answered.body (next_behind of (parts + 1) answered.body) refl is here
told_on on of parts asked answered false is here = tt

taken_on : (on : Bus) (s : LookState) (answered : Answered) (stage : Stage) → s.stage ≡ stage → IsOpenGet stage → IsOn on stage → IsOn on (takes_at s answered stage).state.stage
taken_on on s answered (Opened true of parts asked) is get here = by (is_busy_code answered.code) where
  by : (busy : Bool) → IsOn on (if busy then rests s else goes_on s of parts (bus_of asked) answered).state.stage
  by true = subst (IsOn on) (sym is) here
  by false = told_on on of parts asked answered (answered.code == 0) get here
taken_on on s answered (Opened false of parts asked) is get here = subst (IsOn on) (sym is) here
taken_on on s answered AtStart is get here = subst (IsOn on) (sym is) here
taken_on on s answered (Found of) is get here = subst (IsOn on) (sym is) here
taken_on on s answered (Refused of code) is get here = subst (IsOn on) (sym is) here

step_on : (on : Bus) (new : Looker) (s : LookState) → state_of new ≡ s → IsOn on s.stage → IsOn on new.stage
step_on on new s is here = subst (IsOn on) (sym (ap (λ (x : LookState). x.stage) is)) here

-- ---- whatever comes of a call or a frame

quiet_at_on : (on : Bus) (old new : Looker) (sent : Option (List ℕ)) (stage : Stage) → old.stage ≡ stage → IsStepResult new sent (or_rests old (quiet_at (state_of old) stage)) → IsOn on old.stage
    → IsOn on new.stage
quiet_at_on on old new sent (Opened true of parts asked) at is here = by (nat_lt old.resent old.retries) is where
  by : (less : Bool)
      → IsStepResult new sent (if less then asks (record (state_of old) { resent = old.resent + 1 }) else rests (record (state_of old) { stage = Opened false of parts asked }))
      → IsOn on new.stage
  by true step = step_on on new (record (state_of old) { resent = old.resent + 1 }) step.0 here
  by false step = step_on on new (record (state_of old) { stage = Opened false of parts asked }) step.0 (subst (IsOn on) at here)
quiet_at_on on old new sent (Opened false of parts asked) at is here = step_on on new (state_of old) is.0 here
quiet_at_on on old new sent AtStart at is here = step_on on new (state_of old) is.0 here
quiet_at_on on old new sent (Found of) at is here = step_on on new (state_of old) is.0 here
quiet_at_on on old new sent (Refused of code) at is here = step_on on new (state_of old) is.0 here

pub quiet_on : (on : Bus) (old new : Looker) (sent : Option (List ℕ)) → IsStepResult new sent (quieted_at old) → IsOn on old.stage → IsOn on new.stage
quiet_on on old new sent is here = quiet_at_on on old new sent old.stage refl is here

module _ (on : Bus) (old new : Looker) (frame : Option (List ℕ)) (get : IsOpenGet old.stage) (here : IsOn on old.stage) where
  response_on : (answered : Answered) (passes : Bool) → IsStepResult new frame (if passes then takes_at (state_of old) answered old.stage else rests (state_of old)) → IsOn on new.stage
  response_on answered true step = step_on on new (takes_at (state_of old) answered old.stage).state step.0 (taken_on on (state_of old) answered old.stage refl get here)
  response_on answered false step = step_on on new (state_of old) step.0 here

  message_on : (s : LookState) (told : Option Answered) → s.stage ≡ old.stage → IsStepResult new frame (takes_told s told) → IsOn on new.stage
  message_on s None at step = step_on on new s step.0 (subst (IsOn on) (sym at) here)
  message_on s (Some answered) at step =
      step_on on new (takes_at s answered s.stage).state step.0 (taken_on on s answered s.stage refl (subst IsOpenGet (sym at) get) (subst (IsOn on) (sym at) here))

pub heard_on : (on : Bus) (bytes : List ℕ) (old new : Looker) (frame : Option (List ℕ)) → IsOpenGet old.stage → IsOn on old.stage → HearsFrame on bytes old new frame → IsOn on new.stage
heard_on Ipmb bytes old new frame get here (inl (response, is, step)) =
    response_on Ipmb old new frame get here (record { code = response.code; body = response.body }) (is_awaited old.names old.next response (heeded_in old.stage)) step
heard_on Ipmb bytes old new frame get here (inr (none, step)) = step_on Ipmb new (state_of old) step.0 here
heard_on Smbus bytes old new frame get here (inl (packet, is, inl (other, step))) = step_on Smbus new (state_of old) step.0 here
heard_on Smbus bytes old new frame get here (inl (packet, is, inr (own, inl (message, whole, step)))) =
    message_on Smbus old new frame get here (joins (state_of old) packet) (awaited_reply old.next message.body (heeded_in old.stage)) refl step
heard_on Smbus bytes old new frame get here (inl (packet, is, inr (own, inr (none, step)))) = step_on Smbus new (joins (state_of old) packet) step.0 here
heard_on Smbus bytes old new frame get here (inr (none, step)) = step_on Smbus new (state_of old) step.0 here

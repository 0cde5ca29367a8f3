-- A look stays at what is looked at.
use Rattle.std.specs.Prelude.{nat_lt, Result, Ok, Err}
use Rattle.std.proofs.Common.{◌≡◌, inl, inr, ℕ, zero, suc, ◌+◌, ◌==◌, Bool, true, false, List, [], ◌∷◌, Option, Some, None, refl, sym, ap, subst, if◌then◌else◌}
use Rattle.two_wire.specs.declared.Bus.{Bus}
use Rattle.two_wire.specs.declared.Bus.TheVariants.{Ipmb, Smbus}
use Rattle.wire_links.specs.declared.link.Heard.{Heard}
use Rattle.wire_links.specs.declared.link.Heard.TheVariants.{Frame, Quiet}
use Rattle.wire_links.specs.declared.link.LinkFault.{LinkFault}
use Rattle.wire_links.specs.declared.link.Link.{Ghosts}
use Rattle.record_base.specs.declared.message.Asked.{Asked}
use Rattle.model_bus.specs.Answered.{Answered}
use Rattle.model_bus.specs.Bytes.{is_busy_code}
use Rattle.undo_look.specs.declared.looker.Looker.{Looker}
use Rattle.undo_look.specs.declared.stage.Stage.{Stage}
use Rattle.undo_look.specs.declared.stage.Stage.TheVariants.{AtStart, Opened, Found, Refused}
use Rattle.undo_look.specs.declared.target.Target.{Target}
use Rattle.undo_look.specs.Requests.{bus_of, next_behind}
use Rattle.undo_look.specs.Replies.{stage_with}
use Rattle.undo_look.specs.Looks.{HearsFrame, IsStepResult, LookState, StepResult, again_at, asks, awaited_on, awaited_reply, begin_at, enters, goes_on, heeded_in, is_awaited, joins, open_on, quiet_at, rests, state_of, takes_at, takes_told}
use Rattle.app_look.specs.declared.look_driver.LookEnd.{LookEnd}
use Rattle.app_look.specs.Driven.{DrivenOn, Hears, LeadsBy, LeadsByAll, LookCall, LookMoment, Next, Send, Looking, moment, or_rests, quieted_at, state}
use Rattle.app_look.specs.declared.look_driver.LookEnd.TheVariants.{Silent}
use Rattle.wire_links.specs.contracts.udp_link.UdpLinkLink.TheImpl as udp
use Rattle.app_look.specs.declared.session.Session.{Session}
use Rattle.app_look.specs.Opened.{most_turns}
use Rattle.app_look.specs.Looking.{CallsAgain, CallsOnce, GoesOn, IsOfKey, begins, sends_again}

-- ---- what a reply leads to

with_at : (target of : Target) (parts : ℕ) (next : Option Asked) → of ≡ target → IsOfKey target (stage_with of parts next)
with_at target of parts (Some other) here = here
with_at target of parts None here = here

told_at : (target of : Target) (parts : ℕ) (answered : Answered) (done : Bool) → of ≡ target
    → IsOfKey target (if done then stage_with of parts (next_behind of (parts + 1) answered.body) else Refused of answered.code)
told_at target of parts answered true here = with_at target of parts (next_behind of (parts + 1) answered.body) here
told_at target of parts answered false here = here

taken_at : (target : Target) (s : LookState) (answered : Answered) (stage : Stage) → s.stage ≡ stage → IsOfKey target stage → IsOfKey target (takes_at s answered stage).state.stage
taken_at target s answered (Opened true of parts asked) is here = by (is_busy_code answered.code) where
  by : (busy : Bool) → IsOfKey target (if busy then rests s else goes_on s of parts (bus_of asked) answered).state.stage
  by true = subst (IsOfKey target) (sym is) here
  by false = told_at target of parts answered (answered.code == 0) here
taken_at target s answered (Opened false of parts asked) is here = subst (IsOfKey target) (sym is) here
taken_at target s answered AtStart is here = absurd here
taken_at target s answered (Found of) is here = subst (IsOfKey target) (sym is) here
taken_at target s answered (Refused of code) is here = subst (IsOfKey target) (sym is) here

step_at : (target : Target) (new : Looker) (s : LookState) → state_of new ≡ s → IsOfKey target s.stage → IsOfKey target new.stage
step_at target new s is here = subst (IsOfKey target) (sym (ap (λ (x : LookState). x.stage) is)) here

-- ---- what a silence, a call or a frame leads to

quieted_to : (target : Target) (old new : Looker) (sent : Option (List ℕ)) (stage : Stage) → old.stage ≡ stage → IsStepResult new sent (or_rests old (quiet_at (state_of old) stage))
    → IsOfKey target old.stage → IsOfKey target new.stage
quieted_to target old new sent (Opened true of parts asked) at is here = by (nat_lt old.resent old.retries) is where
  by : (less : Bool)
      → IsStepResult new sent (if less then asks (record (state_of old) { resent = old.resent + 1 }) else rests (record (state_of old) { stage = Opened false of parts asked }))
      → IsOfKey target new.stage
  by true step = step_at target new (record (state_of old) { resent = old.resent + 1 }) step.0 here
  by false step = step_at target new (record (state_of old) { stage = Opened false of parts asked }) step.0 (subst (IsOfKey target) at here)
quieted_to target old new sent (Opened false of parts asked) at is here = step_at target new (state_of old) is.0 here
quieted_to target old new sent AtStart at is here = step_at target new (state_of old) is.0 here
quieted_to target old new sent (Found of) at is here = step_at target new (state_of old) is.0 here
quieted_to target old new sent (Refused of code) at is here = step_at target new (state_of old) is.0 here

quiet_stays : (target : Target) (old new : Looker) (sent : Option (List ℕ)) → IsStepResult new sent (quieted_at old) → IsOfKey target old.stage → IsOfKey target new.stage
quiet_stays target old new sent is here = quieted_to target old new sent old.stage refl is here

again_to : (target : Target) (old new : Looker) (sent : Option (List ℕ)) (stage : Stage) → old.stage ≡ stage → IsStepResult new sent (or_rests old (again_at (state_of old) stage))
    → IsOfKey target old.stage → IsOfKey target new.stage
again_to target old new sent (Opened false of parts asked) at is here =
    step_at target new (enters (state_of old) (Opened true of parts asked)).state is.0 (subst (IsOfKey target) at here)
again_to target old new sent (Opened true of parts asked) at is here = step_at target new (state_of old) is.0 here
again_to target old new sent AtStart at is here = step_at target new (state_of old) is.0 here
again_to target old new sent (Found of) at is here = step_at target new (state_of old) is.0 here
again_to target old new sent (Refused of code) at is here = step_at target new (state_of old) is.0 here

-- the request that wasn't answered is one of the look
pub again_stays : (target : Target) (old new : Looker) (sent : Option (List ℕ)) → IsStepResult new sent (or_rests old (again_at (state_of old) old.stage)) → IsOfKey target old.stage → IsOfKey target new.stage
again_stays target old new sent is here = again_to target old new sent old.stage refl is here

begins_to : (target : Target) (old new : Looker) (sent : Option (List ℕ)) (stage : Stage) → awaited_on stage ≡ None → IsStepResult new sent (or_rests old (begin_at (state_of old) target stage)) → IsOfKey target new.stage
begins_to target old new sent (Opened true of parts asked) none is = let both : Some (bus_of asked) ≡ None = none in cc both
begins_to target old new sent (Opened false of parts asked) none is = step_at target new _ is.0 refl
begins_to target old new sent AtStart none is = step_at target new _ is.0 refl
begins_to target old new sent (Found of) none is = step_at target new _ is.0 refl
begins_to target old new sent (Refused of code) none is = step_at target new _ is.0 refl

-- the look is begun
pub begins_at : (target : Target) (old new : Looker) (sent : Option (List ℕ)) → awaited_on old.stage ≡ None → IsStepResult new sent (or_rests old (begin_at (state_of old) target old.stage)) → IsOfKey target new.stage
begins_at target old new sent none is = begins_to target old new sent old.stage none is

module _ (target : Target) (old new : Looker) (frame : Option (List ℕ)) (here : IsOfKey target old.stage) where
  response_at : (answered : Answered) (passes : Bool) → IsStepResult new frame (if passes then takes_at (state_of old) answered old.stage else rests (state_of old)) → IsOfKey target new.stage
  response_at answered true step = step_at target new (takes_at (state_of old) answered old.stage).state step.0 (taken_at target (state_of old) answered old.stage refl here)
  response_at answered false step = step_at target new (state_of old) step.0 here

  message_at : (s : LookState) (told : Option Answered) → s.stage ≡ old.stage → IsStepResult new frame (takes_told s told) → IsOfKey target new.stage
  message_at s None at step = step_at target new s step.0 (subst (IsOfKey target) (sym at) here)
  message_at s (Some answered) at step =
      step_at target new (takes_at s answered s.stage).state step.0 (taken_at target s answered s.stage refl (subst (IsOfKey target) (sym at) here))

heard_at : (target : Target) (on : Bus) (bytes : List ℕ) (old new : Looker) (frame : Option (List ℕ)) → IsOfKey target old.stage → HearsFrame on bytes old new frame → IsOfKey target new.stage
heard_at target Ipmb bytes old new frame here (inl (response, is, step)) =
    response_at target old new frame here (record { code = response.code; body = response.body }) (is_awaited old.names old.next response (heeded_in old.stage)) step
heard_at target Ipmb bytes old new frame here (inr (none, step)) = step_at target new (state_of old) step.0 here
heard_at target Smbus bytes old new frame here (inl (packet, is, inl (other, step))) = step_at target new (state_of old) step.0 here
heard_at target Smbus bytes old new frame here (inl (packet, is, inr (own, inl (message, whole, step)))) =
    message_at target old new frame here (joins (state_of old) packet) (awaited_reply old.next message.body (heeded_in old.stage)) refl step
heard_at target Smbus bytes old new frame here (inl (packet, is, inr (own, inr (none, step)))) = step_at target new (joins (state_of old) packet) step.0 here
heard_at target Smbus bytes old new frame here (inr (none, step)) = step_at target new (state_of old) step.0 here

-- ---- what calls of a link lead to

hears_at : (target : Target) (on : Bus) (answer : Result Heard LinkFault) (before after : Looking) → Hears on answer before after → IsOfKey target before.looker.stage → IsOfKey target after.looker.stage
hears_at target on (Ok (Frame bytes)) before after hears here = heard_at target on bytes before.looker after.looker after.unsent here hears
hears_at target on (Ok Quiet) before after hears here = quiet_stays target before.looker after.looker after.unsent hears here
hears_at target on (Err fault) before after hears here = quiet_stays target before.looker after.looker after.unsent hears here

module _ {L : Type 0} (of : Ghosts L) (target : Target) (on : Bus) where
  leads_at : (call : LookCall) (before after : LookMoment L) → LeadsBy of on call before after → IsOfKey target before.state.looker.stage → IsOfKey target after.state.looker.stage
  leads_at (Next answer) before after leads here = hears_at target on answer before.state after.state leads.3 here
  leads_at (Send frame (Ok done)) before after leads here = subst (λ (s : Looking). IsOfKey target s.looker.stage) (sym leads.3) here
  leads_at (Send frame (Err fault)) before after leads here = quiet_stays target before.state.looker after.state.looker after.state.unsent leads.3 here

  lead_at : (calls : List LookCall) (before after : LookMoment L) → LeadsByAll of on calls before after → IsOfKey target before.state.looker.stage → IsOfKey target after.state.looker.stage
  lead_at [] before after same here = subst (λ (m : LookMoment L). IsOfKey target m.state.looker.stage) same here
  lead_at (call ∷ later) before after (mid, leads, rest) here = lead_at later mid after rest (leads_at call before mid leads here)

module _ {A B : Type 0} (one : Ghosts A) (two : Ghosts B) (target : Target) (turns : ℕ) (begun : Looker) (first : Option (List ℕ)) (ipmb : A) (smbus : B) (after : Looker) (ipmb_left : A) (smbus_left : B) (here : IsOfKey target begun.stage) where
  -- a look that is driven stays at what is looked at
  pub driven_at : (on : Option Bus) → DrivenOn one two turns (state begun first) ipmb smbus after ipmb_left smbus_left on → IsOfKey target after.stage
  driven_at (Some Ipmb) driven = lead_at one target Ipmb driven.0.drives.calls (moment (state begun first) ipmb) (moment (state after None) ipmb_left) driven.0.drives.leads here
  driven_at (Some Smbus) driven = lead_at two target Smbus driven.0.drives.calls (moment (state begun first) smbus) (moment (state after None) smbus_left) driven.0.drives.leads here
  driven_at None driven = subst (λ (s : Looking). IsOfKey target s.looker.stage) (sym driven.0) here

-- ---- the calls of a session

once_at : (target : Target) (step : StepResult) (old : Session) (end : LookEnd) (new : Session) → ((looker : Looker) (sent : Option (List ℕ)) → IsStepResult looker sent step → IsOfKey target looker.stage)
    → CallsOnce step old end new → IsOfKey target new.looker.stage
once_at target step old end new begun once =
    driven_at udp.ghosts udp.ghosts target most_turns once.over.begun once.over.first old.ipmb old.smbus new.looker new.ipmb new.smbus (begun once.over.begun once.over.first once.over.is_begun)
    (open_on once.over.begun.stage) once.over.driven

again_at_target : (target : Target) (count : ℕ) (first : LookEnd) (begun : Session) (end : LookEnd) (new : Session) → IsOfKey target begun.looker.stage → CallsAgain count first begun end new → IsOfKey target new.looker.stage
again_at_target target zero first begun end new here calls = subst (λ (s : Session). IsOfKey target s.looker.stage) (sym calls.1) here
again_at_target target (suc count) first begun end new here (mid, calls, once) =
    once_at target (sends_again mid) mid end new
    (λ (looker : Looker) (sent : Option (List ℕ)) (is : IsStepResult looker sent (sends_again mid)). again_stays target mid.looker looker sent is (again_at_target target count first begun Silent mid here calls)) once

-- so is a look that was begun and gone on with
pub looked_at : (target : Target) (old : Session) (first : LookEnd) (begun : Session) (end : LookEnd) (new : Session) → awaited_on old.looker.stage ≡ None → CallsOnce (begins old target) old first begun
    → GoesOn first begun end new → IsOfKey target new.looker.stage
looked_at target old first begun end new none once on =
    again_at_target target on.count first begun end new
    (once_at target (begins old target) old first begun (λ (looker : Looker) (sent : Option (List ℕ)) (is : IsStepResult looker sent (begins old target)). begins_at target old.looker looker sent none is) once) on.calls

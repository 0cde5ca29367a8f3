-- A looker is driven: what its calls come to, and those of a link, one after another.
use Rattle.std.specs.Prelude.{Result, Ok, Err, nat_lt, if◌then◌else◌}
use Rattle.std.proofs.Common.{◌≡◌, inl, inr, ◌<◌, ◌+◌, ◌-◌, ◌++◌, ℕ, suc, Bool, true, false, List, [], ◌∷◌, Option, Some, None, refl, sym, ◌∙◌, ap, subst, arith}
use Rattle.std.proofs.lemmas.Bool.{ltb-true}
use Rattle.std.proofs.lemmas.Option.{same_Some}
use Rattle.two_wire.specs.declared.Bus.{Bus}
use Rattle.two_wire.specs.declared.Bus.TheVariants.{Ipmb, Smbus}
use Rattle.wire_links.specs.declared.link.Heard.{Heard}
use Rattle.wire_links.specs.declared.link.Heard.TheVariants.{Frame, Quiet}
use Rattle.wire_links.specs.declared.link.LinkFault.{LinkFault}
use Rattle.wire_links.specs.declared.link.Link.{Ghosts}
use Rattle.wire_links.specs.Trace.{Gives, Takes}
use Rattle.record_base.specs.declared.message.Asked.{Asked}
use Rattle.undo_plans.specs.declared.names.Names.{Names}
use Rattle.undo_plans.specs.declared.undo_list.NextNumbers.{NextNumbers}
use Rattle.undo_look.specs.declared.looker.Looker.{Looker}
use Rattle.undo_look.specs.declared.looker.WrongPhase.{WrongPhase}
use Rattle.undo_look.specs.declared.stage.Stage.{Stage}
use Rattle.undo_look.specs.declared.stage.Stage.TheVariants.{AtStart, Opened, Found, Refused}
use Rattle.undo_look.specs.declared.target.Target.{Target}
use Rattle.undo_look.specs.OpenGet.{IsOpenGet}
use Rattle.undo_look.specs.Looks.{HearsFrame, IsCalled, IsOpenFrame, IsSent, IsStepResult, LookState, StepResult, asks, awaited_on, open_on, quiet_at, rests, state_of}
use Rattle.app_look.proofs.LinkBuses.{heard_on, quiet_on}
use Rattle.app_look.specs.Driven.{Drives, Hears, IsGivenOn, IsOn, LeadsByAll, LookCall, LookMoment, Next, Send, moment, or_rests, quieted_at, state, turns_in}

-- ---- the looker's calls

-- a call had the effect of its step
pub called_by : (old new : Looker) (frame : Option (List ℕ)) (step : Option StepResult) → IsCalled old new (Ok frame) step → IsStepResult new frame (or_rests old step)
called_by old new frame (Some step) is = is
called_by old new frame None is = absurd is

-- a call was refused
pub refused_by : (old new : Looker) (wrong : WrongPhase) (step : Option StepResult) → IsCalled old new (Err wrong) step → IsStepResult new None (or_rests old step)
refused_by old new wrong (Some step) is = absurd is
refused_by old new wrong None same = (ap state_of same, tt)

-- ---- what it gives

open_given : (on : Bus) (names : Names) (next : NextNumbers) (stage : Stage) (frame : List ℕ) → IsOpenFrame names next stage frame → IsOn on stage → open_on stage ≡ Some on
open_given on names next (Opened heeded of parts asked) frame is here = ap Some here
open_given on names next AtStart frame is here = absurd is
open_given on names next (Found of) frame is here = absurd is
open_given on names next (Refused of code) frame is here = absurd is

is_open : (s : LookState) (frame : List ℕ) (sends : Bool) → IsSent s (Some frame) sends → IsOpenFrame s.names s.next s.stage frame
is_open s frame true is = is
is_open s frame false is = absurd is

-- a frame of its open request
pub given : (on : Bus) (new : Looker) (frame : Option (List ℕ)) (step : StepResult) → IsStepResult new frame step → IsOn on new.stage → IsGivenOn on new.stage frame
given on new None step is here = tt
given on new (Some frame) step is here =
    let same : new.stage ≡ step.state.stage = ap (λ (s : LookState). s.stage) is.0 in
    subst (λ (x : Stage). open_on x ≡ Some on) (sym same)
    (open_given on step.state.names step.state.next step.state.stage frame (is_open step.state frame step.sends is.1) (subst (IsOn on) same here))

-- where an answer is awaited, or a request is open
pub awaits_on : (on : Bus) (stage : Stage) → awaited_on stage ≡ Some on → IsOn on stage
awaits_on on (Opened true of parts asked) is = same_Some _ on is
awaits_on on (Opened false of parts asked) is = let both : None ≡ Some on = is in cc both
awaits_on on AtStart is = tt
awaits_on on (Found of) is = tt
awaits_on on (Refused of code) is = tt

pub awaited_here : (on other : Bus) (stage : Stage) → IsOn on stage → awaited_on stage ≡ Some other → awaited_on stage ≡ Some on
awaited_here on other (Opened true of parts asked) here is = ap Some here
awaited_here on other (Opened false of parts asked) here is = let both : None ≡ Some other = is in cc both
awaited_here on other AtStart here is = let both : None ≡ Some other = is in cc both
awaited_here on other (Found of) here is = let both : None ≡ Some other = is in cc both
awaited_here on other (Refused of code) here is = let both : None ≡ Some other = is in cc both

-- where none is open, nothing was given
none_on : (on : Bus) (stage : Stage) → open_on stage ≡ None → IsOn on stage
none_on on (Opened heeded of parts asked) is = cc is
none_on on AtStart is = tt
none_on on (Found of) is = tt
none_on on (Refused of code) is = tt

pub none_given : (stage : Stage) (first : Option (List ℕ)) → open_on stage ≡ None → ((on : Bus) → IsOn on stage → IsGivenOn on stage first) → first ≡ None
none_given stage None none is = refl
none_given stage (Some frame) none is = let both : None ≡ Some Ipmb = sym none ∙ is Ipmb (none_on Ipmb stage none) in cc both

-- ---- how often a frame is sent again

-- how often what a looker gave may still be sent, where each sending fails
abbrev pub sendings_left : Option (List ℕ) → Looker → ℕ
sendings_left None looker = 0
sendings_left (Some frame) looker = suc (looker.retries - looker.resent)

fewer_by : (looker new : Looker) (frame : List ℕ) (of : Target) (parts : ℕ) (asked : Asked) (test : Bool) → nat_lt looker.resent looker.retries ≡ test
    → IsStepResult new (Some frame) (if test then asks (record (state_of looker) { resent = looker.resent + 1 })
    else rests (record (state_of looker) { stage = Opened false of parts asked }))
    → suc (new.retries - new.resent) < suc (looker.retries - looker.resent)
fewer_by looker new frame of parts asked false less is = absurd is.1
fewer_by looker new frame of parts asked true less is =
    let retries : new.retries ≡ looker.retries = ap (λ (s : LookState). s.retries) is.0 in
    let resent : new.resent ≡ looker.resent + 1 = ap (λ (s : LookState). s.resent) is.0 in
    let more : looker.resent < looker.retries = ltb-true _ _ less in
    omega (arith, more, retries, resent)

fewer_at : (looker new : Looker) (frame : List ℕ) (stage : Stage) → IsStepResult new (Some frame) (or_rests looker (quiet_at (state_of looker) stage))
    → suc (new.retries - new.resent) < suc (looker.retries - looker.resent)
fewer_at looker new frame AtStart is = absurd is.1
fewer_at looker new frame (Opened false of parts asked) is = absurd is.1
fewer_at looker new frame (Opened true of parts asked) is = fewer_by looker new frame of parts asked (nat_lt looker.resent looker.retries) refl is
fewer_at looker new frame (Found of) is = absurd is.1
fewer_at looker new frame (Refused of code) is = absurd is.1

-- each silence leaves fewer
pub fewer_left : (looker new : Looker) (frame : List ℕ) (sent : Option (List ℕ)) → IsStepResult new sent (quieted_at looker)
    → sendings_left sent new < sendings_left (Some frame) looker
fewer_left looker new frame None is = omega arith
fewer_left looker new frame (Some sent) is = fewer_at looker new sent looker.stage is

-- ---- the calls of the link

turns_both : (first later : List LookCall) → turns_in (first ++ later) ≡ turns_in first + turns_in later
turns_both [] later = omega arith
turns_both (Next answer ∷ first) later = let rest = turns_both first later in omega (arith, rest)
turns_both (Send frame answer ∷ first) later = turns_both first later

module _ {L : Type 0} (of : Ghosts L) (on : Bus) where
  leads_both : (first later : List LookCall) (a b c : LookMoment L) → LeadsByAll of on first a b → LeadsByAll of on later b c → LeadsByAll of on (first ++ later) a c
  leads_both [] later a b c same following = subst (λ (x : LookMoment L). LeadsByAll of on later x c) (sym same) following
  leads_both (made ∷ first) later a b c (mid, leads, rest) following = (mid, leads, leads_both first later mid b c rest following)

  -- nothing was called
  pub stays : (at : LookMoment L) → Drives of on 0 at at
  stays at = record { calls = []; turns_made = refl; leads = refl }

  -- calls, and then others
  pub drives_both : (turns more all : ℕ) (a b c : LookMoment L) → turns + more ≡ all → Drives of on turns a b → Drives of on more b c → Drives of on all a c
  drives_both turns more all a b c is first following = record {
    calls = first.calls ++ following.calls;
    turns_made = let both = turns_both first.calls following.calls in omega (arith, both, first.turns_made, following.turns_made, is);
    leads = leads_both first.calls following.calls a b c first.leads following.leads;
  }

  -- a frame was sent
  pub sends : (looker : Looker) (frame : List ℕ) (over left : L) → open_on looker.stage ≡ Some on → Takes of over frame (Ok tt) left
      → Drives of on 0 (moment (state looker (Some frame)) over) (moment (state looker None) left)
  sends looker frame over left opened took = record {
    calls = Send frame (Ok tt) ∷ [];
    turns_made = refl;
    leads = (moment (state looker None) left, (refl, opened, took, refl), refl);
  }

  -- its sending failed
  pub fails : (looker new : Looker) (frame : List ℕ) (sent : Option (List ℕ)) (fault : LinkFault) (over left : L) → open_on looker.stage ≡ Some on → Takes of over frame (Err fault) left
      → IsStepResult new sent (quieted_at looker) → Drives of on 0 (moment (state looker (Some frame)) over) (moment (state new sent) left)
  fails looker new frame sent fault over left opened took quiet = record {
    calls = Send frame (Err fault) ∷ [];
    turns_made = refl;
    leads = (moment (state new sent) left, (refl, opened, took, quiet), refl);
  }

  -- a call of `next`
  pub hears_once : (looker new : Looker) (sent : Option (List ℕ)) (answer : Result Heard LinkFault) (over left : L) → awaited_on looker.stage ≡ Some on
      → Gives of over answer left → Hears on answer (state looker None) (state new sent)
      → Drives of on 1 (moment (state looker None) over) (moment (state new sent) left)
  hears_once looker new sent answer over left awaited gives hears = record {
    calls = Next answer ∷ [];
    turns_made = refl;
    leads = (moment (state new sent) left, (refl, awaited, gives, hears), refl);
  }

-- ---- a turn

heard_step : (on : Bus) (bytes : List ℕ) (old new : Looker) (frame : Option (List ℕ)) → HearsFrame on bytes old new frame → (step : StepResult) × IsStepResult new frame step
heard_step Ipmb bytes old new frame (inl (response, is, step)) = (_, step)
heard_step Ipmb bytes old new frame (inr (none, step)) = (_, step)
heard_step Smbus bytes old new frame (inl (packet, is, inl (other, step))) = (_, step)
heard_step Smbus bytes old new frame (inl (packet, is, inr (own, inl (message, whole, step)))) = (_, step)
heard_step Smbus bytes old new frame (inl (packet, is, inr (own, inr (none, step)))) = (_, step)
heard_step Smbus bytes old new frame (inr (none, step)) = (_, step)

-- the looker stays on its bus, and gives a frame of its open request
pub hears_on : (on : Bus) (old new : Looker) (sent : Option (List ℕ)) (answer : Result Heard LinkFault) → IsOpenGet old.stage → IsOn on old.stage → Hears on answer (state old None) (state new sent)
    → IsOn on new.stage × IsGivenOn on new.stage sent
hears_on on old new sent (Ok (Frame bytes)) get here hears =
    let stays = heard_on on bytes old new sent get here hears in
    let step = heard_step on bytes old new sent hears in
    (stays, given on new sent step.0 step.1 stays)
hears_on on old new sent (Ok Quiet) get here hears =
    let stays = quiet_on on old new sent hears here in
    (stays, given on new sent (quieted_at old) hears stays)
hears_on on old new sent (Err fault) get here hears =
    let stays = quiet_on on old new sent hears here in
    (stays, given on new sent (quieted_at old) hears stays)

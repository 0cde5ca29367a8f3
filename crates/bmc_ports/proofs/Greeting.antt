-- A greeting is driven: what its calls come to, and those of its link, one after another.
use Rattle.std.specs.Prelude.{Result, Ok, Err, nat_lt, if◌then◌else◌}
use Rattle.std.proofs.Common.{◌≡◌, ◌<◌, ◌+◌, ◌-◌, ◌++◌, ℕ, suc, Bool, true, false, List, [], ◌∷◌, Option, Some, None, refl, sym, ap, subst, cond, arith}
use Rattle.std.proofs.lemmas.Bool.{ltb-true}
use Rattle.two_wire.specs.declared.Bus.{Bus}
use Rattle.wire_links.specs.declared.link.Heard.{Heard}
use Rattle.wire_links.specs.declared.link.LinkFault.{LinkFault}
use Rattle.wire_links.specs.declared.link.Link.{Ghosts}
use Rattle.wire_links.specs.Trace.{Gives, Takes}
use Rattle.undo_plans.specs.declared.greeting.Greeting.{Greeting}
use Rattle.undo_plans.specs.declared.greeting.GreetingStage.{GreetingStage}
use Rattle.undo_plans.specs.declared.greeting.GreetingStage.TheVariants.{AtStart, Opened, Answered}
use Rattle.undo_plans.specs.declared.greeting.WrongStage.{WrongStage}
use Rattle.undo_plans.specs.Greeter.{StepResult, IsStepResult, IsCalled, is_heeded, start_at, again_at, quiet_at}
use Rattle.bmc_ports.specs.Greeted.{GreetMoment, GreetCall, Next, Send, Drives, Hears, LeadsByAll, begun_at, moment, or_rests, quieted_at, state, turns_in}

-- ---- the greeting's calls

-- a call had the effect of its step
pub called_by : (old new : Greeting) (frame : Option (List ℕ)) (step : Option StepResult) → IsCalled old new (Ok frame) step → IsStepResult new frame (or_rests old step)
called_by old new frame (Some step) is = is
called_by old new frame None is = absurd is

-- a call was refused
pub refused_by : (old new : Greeting) (wrong : WrongStage) (step : Option StepResult) → IsCalled old new (Err wrong) step → IsStepResult new None (or_rests old step)
refused_by old new wrong (Some step) is = absurd is
refused_by old new wrong None same = (same, tt)

-- the greeting was begun
pub begun_by : (old new : Greeting) (frame : Option (List ℕ)) (stage : GreetingStage) → IsCalled old new (Ok frame) (start_at old stage) → IsStepResult new frame (begun_at old stage)
begun_by old new frame AtStart is = is
begun_by old new frame (Opened heeded place) is = absurd is
begun_by old new frame Answered is = absurd is

again_by : (old new : Greeting) (frame : Option (List ℕ)) (wrong : WrongStage) (stage : GreetingStage) → IsCalled old old (Err wrong) (start_at old stage)
    → IsCalled old new (Ok frame) (again_at old stage) → IsStepResult new frame (begun_at old stage)
again_by old new frame wrong AtStart begun is = absurd begun
again_by old new frame wrong (Opened false place) begun is = is
again_by old new frame wrong (Opened true place) begun is = absurd is
again_by old new frame wrong Answered begun is = absurd is

on_by : (old new : Greeting) (wrong other : WrongStage) (stage : GreetingStage) → IsCalled old old (Err wrong) (start_at old stage)
    → IsCalled old new (Err other) (again_at old stage) → IsStepResult new None (begun_at old stage)
on_by old new wrong other AtStart begun is = absurd begun
on_by old new wrong other (Opened false place) begun is = absurd is
on_by old new wrong other (Opened true place) begun same = (same, tt)
on_by old new wrong other Answered begun same = (same, tt)

-- a refused call changed nothing
unchanged : (old mid : Greeting) (wrong : WrongStage) (stage : GreetingStage) → IsCalled old mid (Err wrong) (start_at old stage) → mid ≡ old
unchanged old mid wrong AtStart is = absurd is
unchanged old mid wrong (Opened heeded place) same = same
unchanged old mid wrong Answered same = same

-- it couldn't be begun, and its open request is sent again
pub sent_again : (old mid new : Greeting) (frame : Option (List ℕ)) (wrong : WrongStage) → IsCalled old mid (Err wrong) (start_at old old.stage)
    → IsCalled mid new (Ok frame) (again_at mid mid.stage) → IsStepResult new frame (begun_at old old.stage)
sent_again old mid new frame wrong begun is =
    let same = unchanged old mid wrong old.stage begun in
    again_by old new frame wrong old.stage (subst (λ (g : Greeting). IsCalled old g (Err wrong) (start_at old old.stage)) same begun)
    (subst (λ (g : Greeting). IsCalled g new (Ok frame) (again_at g g.stage)) same is)

-- nor can that be, and it goes on as it is
pub goes_on : (old mid new : Greeting) (wrong other : WrongStage) → IsCalled old mid (Err wrong) (start_at old old.stage)
    → IsCalled mid new (Err other) (again_at mid mid.stage) → IsStepResult new None (begun_at old old.stage)
goes_on old mid new wrong other begun is =
    let same = unchanged old mid wrong old.stage begun in
    on_by old new wrong other old.stage (subst (λ (g : Greeting). IsCalled old g (Err wrong) (start_at old old.stage)) same begun)
    (subst (λ (g : Greeting). IsCalled g new (Err other) (again_at g g.stage)) same is)

-- ---- how often a frame is sent again

-- how often what a greeting gave may still be sent, where each sending fails
abbrev pub sendings_left : Option (List ℕ) → Greeting → ℕ
sendings_left None greeting = 0
sendings_left (Some frame) greeting = suc (greeting.retries - greeting.resent)

fewer_by : (greeting new : Greeting) (frame : List ℕ) (place : ℕ) (test : Bool) → nat_lt greeting.resent greeting.retries ≡ test
    → IsStepResult new (Some frame) (cond test
    (record { greeting = record greeting { resent = greeting.resent + 1 }; sends = Some place })
    (record { greeting = record greeting { stage = Opened false place }; sends = None }))
    → suc (new.retries - new.resent) < suc (greeting.retries - greeting.resent)
fewer_by greeting new frame place false less is = absurd is.1
fewer_by greeting new frame place true less is =
    let retries : new.retries ≡ greeting.retries = ap (λ (g : Greeting). g.retries) is.0 in
    let resent : new.resent ≡ greeting.resent + 1 = ap (λ (g : Greeting). g.resent) is.0 in
    let more : greeting.resent < greeting.retries = ltb-true _ _ less in
    omega (arith, more, retries, resent)

fewer_at : (greeting new : Greeting) (frame : List ℕ) (stage : GreetingStage) → IsStepResult new (Some frame) (or_rests greeting (quiet_at greeting stage))
    → suc (new.retries - new.resent) < suc (greeting.retries - greeting.resent)
fewer_at greeting new frame AtStart is = absurd is.1
fewer_at greeting new frame (Opened false place) is = absurd is.1
fewer_at greeting new frame (Opened true place) is = fewer_by greeting new frame place (nat_lt greeting.resent greeting.retries) refl is
fewer_at greeting new frame Answered is = absurd is.1

-- each silence leaves fewer
pub fewer_left : (greeting new : Greeting) (frame : List ℕ) (sent : Option (List ℕ)) → IsStepResult new sent (quieted_at greeting)
    → sendings_left sent new < sendings_left (Some frame) greeting
fewer_left greeting new frame None is = omega arith
fewer_left greeting new frame (Some sent) is = fewer_at greeting new sent greeting.stage is

-- ---- the calls of the link

turns_both : (first later : List GreetCall) → turns_in (first ++ later) ≡ turns_in first + turns_in later
turns_both [] later = omega arith
turns_both (Next answer ∷ first) later = let rest = turns_both first later in omega (arith, rest)
turns_both (Send frame answer ∷ first) later = turns_both first later

module _ {L : Type 0} (of : Ghosts L) where
  leads_both : (first later : List GreetCall) (a b c : GreetMoment L) → LeadsByAll of first a b → LeadsByAll of later b c → LeadsByAll of (first ++ later) a c
  leads_both [] later a b c same following = subst (λ (x : GreetMoment L). LeadsByAll of later x c) (sym same) following
  leads_both (made ∷ first) later a b c (mid, leads, rest) following = (mid, leads, leads_both first later mid b c rest following)

  -- nothing was called
  pub stays : (at : GreetMoment L) → Drives of 0 at at
  stays at = record { calls = []; turns_made = refl; leads = refl }

  -- calls, and then others
  pub drives_both : (turns more all : ℕ) (a b c : GreetMoment L) → turns + more ≡ all → Drives of turns a b → Drives of more b c → Drives of all a c
  drives_both turns more all a b c is first following = record {
    calls = first.calls ++ following.calls;
    turns_made = let both = turns_both first.calls following.calls in omega (arith, both, first.turns_made, following.turns_made, is);
    leads = leads_both first.calls following.calls a b c first.leads following.leads;
  }

  -- a frame was sent
  pub sends : (greeting : Greeting) (frame : List ℕ) (busy : Bool) (over left : L) → Takes of over frame (Ok tt) left
      → Drives of 0 (moment (state greeting (Some frame) busy) over) (moment (state greeting None busy) left)
  sends greeting frame busy over left took = record {
    calls = Send frame (Ok tt) ∷ [];
    turns_made = refl;
    leads = (moment (state greeting None busy) left, (refl, took, refl), refl);
  }

  -- its sending failed
  pub fails : (greeting new : Greeting) (frame : List ℕ) (sent : Option (List ℕ)) (fault : LinkFault) (busy : Bool) (over left : L) → Takes of over frame (Err fault) left
      → IsStepResult new sent (quieted_at greeting) → Drives of 0 (moment (state greeting (Some frame) busy) over) (moment (state new sent busy) left)
  fails greeting new frame sent fault busy over left took quiet = record {
    calls = Send frame (Err fault) ∷ [];
    turns_made = refl;
    leads = (moment (state new sent busy) left, (refl, took, (quiet, refl)), refl);
  }

  -- a call of `next`
  pub hears_once : (greeting new : Greeting) (sent : Option (List ℕ)) (busy now : Bool) (answer : Result Heard LinkFault) (over left : L) → is_heeded greeting.stage ≡ true
      → Gives of over answer left → Hears greeting.bus answer (state greeting None busy) (state new sent now)
      → Drives of 1 (moment (state greeting None busy) over) (moment (state new sent now) left)
  hears_once greeting new sent busy now answer over left heeded gives hears = record {
    calls = Next answer ∷ [];
    turns_made = refl;
    leads = (moment (state new sent now) left, (refl, heeded, gives, hears), refl);
  }

-- ---- what is awaited

abbrev value_or : Bus → Option Bus → Bus
value_or bus None = bus
value_or bus (Some other) = other

-- an answer is awaited on this bus, or none is
pub awaited : (heeded : Bool) (own bus : Bus) → Some bus ≡ (if heeded then Some own else None) → (heeded ≡ true) × (own ≡ bus)
awaited true own bus is = (refl, sym (ap (value_or own) is))
awaited false own bus is = cc is

pub none_awaited : (heeded : Bool) (own : Bus) → None ≡ (if heeded then Some own else None) → heeded ≡ false
none_awaited true own is = cc is
none_awaited false own is = refl

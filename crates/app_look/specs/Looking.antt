-- The looks of a session: what was called of its links, and what was looked at.
use Rattle.std.specs.Prelude.{◌≡◌, ◌≢◌, ◌≤◌, ◌⊎◌, ℕ, zero, suc, None}
use Rattle.wire_links.specs.contracts.udp_link.UdpLinkLink.TheImpl as udp
use Rattle.record_base.specs.declared.key.Key.{Key}
use Rattle.undo_look.specs.declared.stage.Stage.{Stage}
use Rattle.undo_look.specs.declared.stage.Stage.TheVariants.{AtStart, Opened, Found, Refused}
use Rattle.undo_look.specs.declared.target.Target.{Target}
use Rattle.undo_look.specs.declared.target.TablePart.{TablePart}
use Rattle.undo_look.specs.declared.target.Target.TheVariants.{Record, Table}
use Rattle.undo_look.specs.Looks.{StepResult, again_at, awaited_on, begin_at, open_on, state_of}
use Rattle.app_look.specs.declared.look_driver.LookEnd.{LookEnd}
use Rattle.app_look.specs.declared.look_driver.LookEnd.TheVariants.{Silent}
use Rattle.app_look.specs.Driven.{LooksOver, or_rests}
use Rattle.app_look.specs.declared.session.Session.{Session}
use Rattle.app_look.specs.Opened.{most_turns}

-- a call had the effect of the step on the looker, drove it over the session's links, and ended so
pub record CallsOnce (step : StepResult) (old : Session) (end : LookEnd) (new : Session) : Type 0 where
  pub over : LooksOver udp.ghosts udp.ghosts most_turns step old.ipmb old.smbus new.looker end new.ipmb new.smbus
  pub same_again : new.again ≡ old.again

-- a look is begun
abbrev pub begins : Session → Target → StepResult
begins old target = or_rests old.looker (begin_at (state_of old.looker) target old.looker.stage)

-- the request that wasn't answered is sent again
abbrev pub sends_again : Session → StepResult
sends_again old = or_rests old.looker (again_at (state_of old.looker) old.looker.stage)

-- Behind a call that ended so, so many others sent the request again, each behind one that wasn't answered. The last ended so.
abbrev pub CallsAgain : (count : ℕ) → (first : LookEnd) → (begun : Session) → (end : LookEnd) → (new : Session) → Type 0
CallsAgain zero first begun end new = (end ≡ first) × (new ≡ begun)
CallsAgain (suc count) first begun end new = (mid : Session) × CallsAgain count first begun Silent mid × CallsOnce (sends_again mid) mid end new

-- as many calls did as the session makes, or fewer, and then the look was answered or refused
pub record GoesOn (first : LookEnd) (begun : Session) (end : LookEnd) (new : Session) : Type 0 where
  pub count : ℕ
  pub few : count ≤ begun.again
  pub calls : CallsAgain count first begun end new
  pub ended : (count ≡ begun.again) ⊎ (end ≢ Silent)

-- the look is at this
abbrev pub IsOfKey : Target → Stage → Type 0
IsOfKey target (Opened heeded of parts asked) = of ≡ target
IsOfKey target (Found of) = of ≡ target
IsOfKey target (Refused of code) = of ≡ target
IsOfKey target AtStart = ⊥

-- it was looked at
pub record Looks (old : Session) (target : Target) (end : LookEnd) (new : Session) : Type 0 where
  pub first : LookEnd
  pub begun : Session
  pub begins_get : CallsOnce (begins old target) old first begun
  pub goes_on : GoesOn first begun end new
  pub at : IsOfKey target new.looker.stage

-- Or nothing was called: an answer to the look before is still awaited, whose last call had as many turns as it may have.
abbrev pub LooksTo : (old : Session) → Target → (end : LookEnd) → (new : Session) → Type 0
LooksTo old target end new =
    ((awaited_on old.looker.stage ≡ None) × Looks old target end new)
    ⊎ ((awaited_on old.looker.stage ≢ None) × (end ≡ Silent) × (new ≡ old))

-- a record was looked at
abbrev pub LooksAt : (old : Session) → Key → (end : LookEnd) → (new : Session) → Type 0
LooksAt old key end new = LooksTo old (Record key) end new

-- A part of one of the controller's tables was asked for. Or nothing was called: the request before that wasn't answered.
abbrev pub AsksFor : (old : Session) → TablePart → (end : LookEnd) → (new : Session) → Type 0
AsksFor old part end new =
    ((open_on old.looker.stage ≡ None) × LooksTo old (Table part) end new)
    ⊎ ((open_on old.looker.stage ≢ None) × (end ≡ Silent) × (new ≡ old))

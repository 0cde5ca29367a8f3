-- Looks at one record after another.
use Rattle.std.specs.Prelude.{get_or}
use Rattle.std.proofs.Common.{◌≡◌, ◌∙◌, ◌+◌, ◌<◌, ◌≤◌, ◌++◌, inl, inr, ℕ, zero, suc, Bool, List, [], ◌∷◌, length, take, Some, None, refl, sym, ap, subst, arith, length-append}
use Rattle.std.proofs.lemmas.List.{take_more}
use Rattle.two_wire.specs.declared.Bus.TheVariants.{Ipmb, Smbus}
use Rattle.record_base.specs.declared.key.Key.{Key}
use Rattle.undo_look.specs.declared.stage.Stage.{Stage}
use Rattle.undo_look.specs.declared.stage.Stage.TheVariants as stage
use Rattle.undo_look.specs.declared.target.Target.TheVariants.{Record}
use Rattle.undo_look.specs.Looks.{IsSeen}
use Rattle.app_look.specs.declared.look_driver.LookEnd.{LookEnd}
use Rattle.app_look.specs.declared.look_driver.LookEnd.TheVariants.{Silent}
use Rattle.app_look.specs.declared.records.Found.{Found}
use Rattle.app_look.specs.declared.session.Session.{Session}
use Rattle.app_look.specs.Driven.{end_at}
use Rattle.app_look.specs.Looking.{CallsAgain, CallsOnce, LooksAt, begins}
use Rattle.app_look.specs.declared.session.Way.{Way}
use Rattle.app_look.specs.Opened.{IsOpened}
use Rattle.app_look.specs.Findings.{Finds, FindsEach, LooksUpTo, OpensFor, are_used}

-- ---- a look whose Get wasn't answered

unseen : (stage : Stage) (shown : List ℕ) → IsSeen stage shown None → end_at stage ≡ Silent
unseen stage.AtStart shown is = refl
unseen (stage.Opened heeded of parts asked) shown is = refl
unseen (stage.Found of) shown is = absurd is
unseen (stage.Refused of code) shown is = absurd is

ended_of : (key : Key) (old : Session) (first : LookEnd) (begun : Session) (end : LookEnd) (new : Session) (count : ℕ) → CallsOnce (begins old (Record key)) old first begun → CallsAgain count first begun end new
    → end ≡ end_at new.looker.stage
ended_of key old first begun end new zero once calls = calls.0 ∙ once.over.ends ∙ ap (λ (s : Session). end_at s.looker.stage) (sym calls.1)
ended_of key old first begun end new (suc count) once (mid, calls, last) = last.over.ends

pub finds_none : (key : Key) (old : Session) (end : LookEnd) (new : Session) → LooksAt old key end new → IsSeen new.looker.stage new.looker.shown None → Finds old key None new
finds_none key old end new looks is = (end, looks, by looks) where
  by : LooksAt old key end new → end ≡ Silent
  by (inl (ready, at)) = ended_of key old at.first at.begun end new at.goes_on.count at.begins_get at.goes_on.calls ∙ unseen new.looker.stage new.looker.shown is
  by (inr (open_still, silent, same)) = silent

-- ---- one look behind others

-- one more record was looked at
pub finds_more : (keys : List Key) (found : List Found) (key : Key) (one : Found) (old mid new : Session) → FindsEach keys found old mid → Finds mid key (Some one) new
    → FindsEach (keys ++ key ∷ []) (found ++ one ∷ []) old new
finds_more [] [] key one old mid new same finds = (new, subst (λ (s : Session). Finds s key (Some one) new) same finds, refl)
finds_more (first ∷ keys) (other ∷ found) key one old mid new (next, looked, rest) finds = (next, looked, finds_more keys found key one next mid new rest finds)
finds_more [] (other ∷ found) key one old mid new none finds = absurd none
finds_more (first ∷ keys) [] key one old mid new none finds = absurd none

-- no record was looked at
pub none_looked : (keys : List Key) (old : Session) → LooksUpTo 0 keys old old
none_looked keys old = (old, ([], refl), inl refl)

-- those before a place were looked at, and the one there
pub each_more : (keys : List Key) (place : ℕ) (key : Key) (found : List Found) (one : Found) (all : List Found) (old mid new : Session) → place < length keys → key ≡ get_or keys place key
    → FindsEach (take place keys) found old mid → Finds mid key (Some one) new → all ≡ found ++ one ∷ [] → FindsEach (take (place + 1) keys) all old new
each_more keys place key found one all old mid new less at before finds is =
    let more : take (place + 1) keys ≡ take place keys ++ key ∷ [] = take_more keys place key less ∙ ap (λ (k : Key). take place keys ++ k ∷ []) (sym at) in
    subst (λ (ks : List Key). FindsEach ks all old new) (sym more)
    (subst (λ (fs : List Found). FindsEach (take place keys ++ key ∷ []) fs old new) (sym is) (finds_more (take place keys) found key one old mid new before finds))

pub one_longer : (found all : List Found) (one : Found) (place : ℕ) → all ≡ found ++ one ∷ [] → length found ≤ place → length all ≤ place + 1
one_longer found all one place is few =
    let longer : length (found ++ one ∷ []) ≡ length found + 1 = grind (arith, length-append) in
    subst (λ (l : List Found). length l ≤ place + 1) (sym is) (omega (arith, longer, few))

-- ---- which buses were greeted

pub opens_for : (way : Way) (keys : List Key) (ipmb smbus : Bool) (session : Session) → ipmb ≡ are_used Ipmb keys → smbus ≡ are_used Smbus keys → IsOpened way ipmb smbus session → OpensFor way keys session
opens_for way keys ipmb smbus session on_ipmb on_smbus is =
    subst (λ (used : Bool). IsOpened way used (are_used Smbus keys) session) on_ipmb (subst (λ (used : Bool). IsOpened way ipmb used session) on_smbus is)

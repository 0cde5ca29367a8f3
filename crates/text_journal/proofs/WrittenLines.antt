-- The lines that are written for a journal say that journal.
use Rattle.std.proofs.Common.{◌≡◌, ◌<◌, ◌≤◌, ◌+◌, ◌^◌, inl, inr, ℕ, List, [], ◌∷◌, ◌++◌, length, map, arith, refl, sym, ap, subst, append_assoc, Option, Some, None, codes}
use Rattle.std.specs.List.{AllByRecursion}
use Rattle.record_base.specs.declared.op.Op.{Op}
use Rattle.record_base.specs.declared.message.Asked.{Asked}
use Rattle.undo_plans.specs.declared.names.Names.{Names}
use Rattle.undo_plans.specs.Bounds.{most_kept}
use Rattle.undo_plans.specs.KeptManager.{Kept, IsToldToStop, AreFew}
use Rattle.text_journal.specs.declared.draft.Place.TheVariants as at
use Rattle.text_journal.specs.JournalLines.{IsBytesLine, IsRequestLine, IsStepLine, stage_step}
use Rattle.text_journal.specs.JournalText.{Said, then, start, nothing, AreListed, AreReplies, Says, Fits}
use Rattle.text_journal.specs.Written.{bytes_line, listed_line, head_lines, request_line, step_line, waiting_lines, step_lines, undo_lines, replies_line, state_lines, lines_of, IsListed, HasHead, IsWaitingLine, HasState}

says_both : (from : Said) (xs ys : List (List ℕ)) (mid to : Said) → Says from xs mid → Says mid ys to → Says from (xs ++ ys) to
says_both from [] ys mid to p q = subst (λ (s : Said). Says s ys to) (sym p) q
says_both from (x ∷ xs) ys mid to (next, h, rest) q = (next, h, says_both next xs ys mid to rest q)

-- ---- in front of the steps

listed_says : (listed : Option Names) (any : Kept) → IsListed listed → AreListed any (listed_line listed) (then at.Count 0 (record any { listed = listed }))
listed_says None any is = inl (refl, refl)
listed_says (Some names) any is = inr (names, is, refl)

abbrev with_head : Kept → Kept
with_head kept = record nothing { retries = kept.retries; names = kept.names; listed = kept.listed }

head_says : (kept : Kept) → HasHead kept → Says start (head_lines kept) (then at.Count 0 (with_head kept))
head_says kept has = (
  then at.Retries 0 nothing,
  (refl, refl),
  (
    then at.Names 0 (record nothing { retries = kept.retries }),
    (kept.retries, refl, has.retries, refl),
    (
      then at.Listed 0 (record nothing { retries = kept.retries; names = kept.names }),
      (kept.names, has.names, refl),
      (then at.Count 0 (with_head kept), listed_says kept.listed (record nothing { retries = kept.retries; names = kept.names }) has.listed, refl),
    ),
  ),
)

-- ---- the lists

nil_behind : {T : Type 0} (xs : List T) → xs ++ [] ≡ xs
nil_behind [] = refl
nil_behind {T} (x ∷ xs) = ap (λ (l : List T). x ∷ l) (nil_behind xs)

steps_say : (plan : List Op) (any : Kept) → AllByRecursion (λ op. IsStepLine (step_line op) op) plan
    → Says (then at.Step (length plan) any) (map step_line plan) (then at.Step 0 (record any { plan = any.plan ++ plan }))
steps_say [] any all = ap (λ (p : List Op). then at.Step 0 (record any { plan = p })) (sym (nil_behind any.plan))
steps_say (op ∷ plan) any all =
    let next : Kept = record any { plan = any.plan ++ op ∷ [] } in (
      then at.Step (length plan) next,
      (op, all.0, refl),
      subst (λ (p : List Op). Says (then at.Step (length plan) next) (map step_line plan) (then at.Step 0 (record any { plan = p }))) (append_assoc any.plan (op ∷ []) plan) (steps_say plan next all.1),
    )

members_say : (members : List Asked) (any : Kept) → AllByRecursion (λ asked. IsRequestLine (request_line asked) asked) members
    → Says (then at.Request (length members) any) (map request_line members) (then at.Request 0 (record any { members = any.members ++ members }))
members_say [] any all = ap (λ (m : List Asked). then at.Request 0 (record any { members = m })) (sym (nil_behind any.members))
members_say (asked ∷ members) any all =
    let next : Kept = record any { members = any.members ++ asked ∷ [] } in (
      then at.Request (length members) next,
      (asked, all.0, refl),
      subst (λ (m : List Asked). Says (then at.Request (length members) next) (map request_line members) (then at.Request 0 (record any { members = m }))) (append_assoc any.members (asked ∷ []) members) (members_say members next all.1),
    )

-- how many wait
abbrev pub waiting_count : Option Asked → ℕ
waiting_count None = 0
waiting_count (Some asked) = 1

waiting_says : (waiting : Option Asked) (any : Kept) → any.waiting ≡ None → IsWaitingLine waiting → waiting_count waiting + length any.members ≤ 256
    → Says (then at.Request 0 any) (waiting_lines waiting) (then at.Waiting 0 (record any { waiting = waiting }))
waiting_says None any none is few = (then at.Waiting 0 any, (0, refl, omega arith, few, refl), ap (λ (w : Option Asked). then at.Waiting 0 (record any { waiting = w })) none)
waiting_says (Some asked) any none is few = (then at.Waiting 1 any, (1, refl, omega arith, few, refl), (then at.Waiting 0 (record any { waiting = Some asked }), (asked, is, refl), refl))

abbrev with_lists : Kept → Kept
with_lists kept = record (with_head kept) { plan = kept.plan; members = kept.members; waiting = kept.waiting }

-- ---- behind the lists

replies_say : (replies : List ℕ) (any : Kept) → IsBytesLine (codes "replies ") (bytes_line (codes "replies ") replies) replies → length replies ≤ most_kept any.stage
    → AreReplies any (replies_line replies) (then at.End 0 (record any { replies = replies }))
replies_say [] any is few = inl (refl, refl)
replies_say (byte ∷ bytes) any is few = inr (byte ∷ bytes, is, (λ e. cc e), few, refl)

state_says : (kept : Kept) → HasState kept → stage_step kept.stage < 2 ^ 32 → Fits kept kept.stage → IsToldToStop kept.stage kept.stopped → AreFew (length kept.plan) (length kept.members) kept.stage kept.counts
    → length kept.replies ≤ most_kept kept.stage → Says (then at.Waiting 0 (with_lists kept)) (state_lines kept) (then at.End 0 kept)
state_says kept has low fits told few short = (
  then at.Told 0 (record (with_lists kept) { stage = kept.stage }),
  (kept.stage, refl, has.stage low, record { stands = fits.stands; alone = fits.alone }, refl),
  (
    then at.Counts 0 (record (with_lists kept) { stage = kept.stage; stopped = kept.stopped }),
    (kept.stopped, refl, told, refl),
    (
      then at.Replies 0 (record (with_lists kept) { stage = kept.stage; stopped = kept.stopped; counts = kept.counts }),
      (kept.counts, refl, has.ipmb, has.smbus, few, refl),
      (
        then at.End 0 kept,
        replies_say kept.replies (record (with_lists kept) { stage = kept.stage; stopped = kept.stopped; counts = kept.counts }) has.replies short,
        refl,
      ),
    ),
  ),
)

-- ---- all lines

pub record IsWritten (kept : Kept) : Type 0 where
  pub head : HasHead kept
  pub steps : AllByRecursion (λ op. IsStepLine (step_line op) op) kept.plan
  pub few_steps : length kept.plan ≤ 256
  pub members : AllByRecursion (λ asked. IsRequestLine (request_line asked) asked) kept.members
  pub few_members : length kept.members ≤ 256
  pub waiting : IsWaitingLine kept.waiting
  pub few_waiting : waiting_count kept.waiting + length kept.members ≤ 256
  pub state : HasState kept
  pub step : stage_step kept.stage < 2 ^ 32
  pub fits : Fits kept kept.stage
  pub told : IsToldToStop kept.stage kept.stopped
  pub few : AreFew (length kept.plan) (length kept.members) kept.stage kept.counts
  pub replies : length kept.replies ≤ most_kept kept.stage

pub lines_say : (kept : Kept) → IsWritten kept → Says start (lines_of kept) (then at.End 0 kept)
lines_say kept w =
    let first : Kept = with_head kept in
    let second : Kept = record first { plan = kept.plan } in
    let third : Kept = record second { members = kept.members } in
    let steps : Says (then at.Count 0 first) (step_lines kept.plan) (then at.Step 0 second) = (then at.Step (length kept.plan) first, (length kept.plan, refl, w.few_steps, refl), steps_say kept.plan first w.steps) in
    let members : Says (then at.Step 0 second) (undo_lines kept.members) (then at.Request 0 third) =
    (then at.Request (length kept.members) second, (length kept.members, refl, w.few_members, refl), members_say kept.members second w.members) in
    let last : Said = then at.End 0 kept in
    let ends : List (List ℕ) = waiting_lines kept.waiting ++ state_lines kept in
    says_both start (head_lines kept) (step_lines kept.plan ++ (undo_lines kept.members ++ ends)) (then at.Count 0 first) last (head_says kept w.head)
    (says_both (then at.Count 0 first) (step_lines kept.plan) (undo_lines kept.members ++ ends) (then at.Step 0 second) last steps
    (says_both (then at.Step 0 second) (undo_lines kept.members) ends (then at.Request 0 third) last members
    (says_both (then at.Request 0 third) (waiting_lines kept.waiting) (state_lines kept) (then at.Waiting 0 (with_lists kept)) last (waiting_says kept.waiting third refl w.waiting w.few_waiting)
    (state_says kept w.state w.step w.fits w.told w.few w.replies))))

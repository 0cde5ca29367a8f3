-- What is kept of a manager that is made again.
use Rattle.std.proofs.Common.{◌≡◌, ◌+◌, true, false, Option, Some, None, refl, sym, ap, subst}
use Rattle.std.specs.Prelude.{nat_lt}
use Rattle.std.proofs.lemmas.Bool.{cond_both}
use Rattle.model_undo.specs.Words.{Words}
use Rattle.model_undo.specs.Machine.{Gets, Sets, Undoes, Stage, AtStart, Opened, AtEnd, AtHalt, AtUndone, AtRefused, Machine, Turn, sending, sends_at, quiets, agains, stops}
use Rattle.model_undo.specs.Resume.{after, list_of}
use Rattle.model_undo.specs.Restart.{restarts, restarted, open_request, KeepsPlace}

module _ (M : Words) where
  -- what holds of the machine with this stage holds of one that is at this stage
  pub as_stage : (stage : Stage M) (m : Machine M) → m.stage ≡ stage → (P : Machine M → Type 0) → P (record m { stage = stage }) → P m
  as_stage stage m at P h = subst P (ap (λ (s : Stage M). record m { stage = s }) (sym at)) h

  request_kept : (stage : Stage M) (m : Machine M) → m.stage ≡ stage → open_request M (restarts M stage m) ≡ sends_at M stage m.counts
  request_kept (Opened heeded task part) m at = refl
  request_kept AtStart m at = ap (λ (s : Stage M). sends_at M s m.counts) at
  request_kept AtEnd m at = ap (λ (s : Stage M). sends_at M s m.counts) at
  request_kept (AtHalt k why) m at = ap (λ (s : Stage M). sends_at M s m.counts) at
  request_kept AtUndone m at = ap (λ (s : Stage M). sends_at M s m.counts) at
  request_kept (AtRefused k code) m at = ap (λ (s : Stage M). sends_at M s m.counts) at

  list_kept : (stage : Stage M) (m : Machine M) → list_of M (restarts M stage m) ≡ list_of M m
  list_kept (Opened heeded task part) m = refl
  list_kept AtStart m = refl
  list_kept AtEnd m = refl
  list_kept (AtHalt k why) m = refl
  list_kept AtUndone m = refl
  list_kept (AtRefused k code) m = refl

  -- the restart makes the same of what a call leaves
  abbrev MakesSame : Stage M → (Machine M → Option (Turn M)) → Machine M → Type 0
  MakesSame stage call m = restarted M (after M (call m) m) ≡ restarts M stage m

  quiet_kept : (stage : Stage M) (m : Machine M) → m.stage ≡ stage → MakesSame stage (quiets M stage) m
  quiet_kept (Opened true task part) m at =
      as_stage (Opened true task part) m at (MakesSame (Opened true task part) (quiets M (Opened true task part)))
      (let x = record m { stage = Opened true task part } in
      cond_both (nat_lt m.resent m.retries) (Some (record { machine = record x { resent = m.resent + 1 }; sends = Some (sending M part m.counts) })) (Some (record { machine = record x { stage = Opened false task part }; sends = None }))
      (λ o. restarted M (after M o x) ≡ restarts M (Opened true task part) x) (λ _. refl) (λ _. refl))
  quiet_kept (Opened false task part) m at = ap (λ (s : Stage M). restarts M s m) at
  quiet_kept AtStart m at = ap (λ (s : Stage M). restarts M s m) at
  quiet_kept AtEnd m at = ap (λ (s : Stage M). restarts M s m) at
  quiet_kept (AtHalt k why) m at = ap (λ (s : Stage M). restarts M s m) at
  quiet_kept AtUndone m at = ap (λ (s : Stage M). restarts M s m) at
  quiet_kept (AtRefused k code) m at = ap (λ (s : Stage M). restarts M s m) at

  again_kept : (stage : Stage M) (m : Machine M) → m.stage ≡ stage → MakesSame stage (agains M stage) m
  again_kept (Opened false task part) m at = refl
  again_kept (Opened true task part) m at = ap (λ (s : Stage M). restarts M s m) at
  again_kept AtStart m at = ap (λ (s : Stage M). restarts M s m) at
  again_kept AtEnd m at = ap (λ (s : Stage M). restarts M s m) at
  again_kept (AtHalt k why) m at = ap (λ (s : Stage M). restarts M s m) at
  again_kept AtUndone m at = ap (λ (s : Stage M). restarts M s m) at
  again_kept (AtRefused k code) m at = ap (λ (s : Stage M). restarts M s m) at

  stop_kept : (stage : Stage M) (m : Machine M) → m.stage ≡ stage → MakesSame stage (stops M stage) m
  stop_kept (Opened true (Gets k op) part) m at = as_stage (Opened true (Gets k op) part) m at (MakesSame (Opened true (Gets k op) part) (stops M (Opened true (Gets k op) part))) refl
  stop_kept (Opened true (Sets k op back) part) m at = as_stage (Opened true (Sets k op back) part) m at (MakesSame (Opened true (Sets k op back) part) (stops M (Opened true (Sets k op back) part))) refl
  stop_kept (Opened true (Undoes u us) part) m at = ap (λ (s : Stage M). restarts M s m) at
  stop_kept (Opened false task part) m at = ap (λ (s : Stage M). restarts M s m) at
  stop_kept AtStart m at = ap (λ (s : Stage M). restarts M s m) at
  stop_kept AtEnd m at = ap (λ (s : Stage M). restarts M s m) at
  stop_kept (AtHalt k why) m at = ap (λ (s : Stage M). restarts M s m) at
  stop_kept AtUndone m at = ap (λ (s : Stage M). restarts M s m) at
  stop_kept (AtRefused k code) m at = ap (λ (s : Stage M). restarts M s m) at

  twice_kept : (stage : Stage M) (m : Machine M) → m.stage ≡ stage → restarted M (restarts M stage m) ≡ restarts M stage m
  twice_kept (Opened heeded (Gets k op) part) m at = refl
  twice_kept (Opened heeded (Sets k op back) part) m at = refl
  twice_kept (Opened heeded (Undoes u us) part) m at = refl
  twice_kept AtStart m at = ap (λ (s : Stage M). restarts M s m) at
  twice_kept AtEnd m at = ap (λ (s : Stage M). restarts M s m) at
  twice_kept (AtHalt k why) m at = ap (λ (s : Stage M). restarts M s m) at
  twice_kept AtUndone m at = ap (λ (s : Stage M). restarts M s m) at
  twice_kept (AtRefused k code) m at = ap (λ (s : Stage M). restarts M s m) at

  pub is_kept : KeepsPlace M
  is_kept = record {
    same_request = λ m. request_kept m.stage m refl;
    same_list = λ m. list_kept m.stage m;
    quiet = λ m. quiet_kept m.stage m refl;
    again = λ m. again_kept m.stage m refl;
    stop = λ m. stop_kept m.stage m refl;
    twice = λ m. twice_kept m.stage m refl;
  }

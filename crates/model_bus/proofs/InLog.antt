-- The port's log shows of the manager the requests that it had carried out before, and then those that the bus counts as carried.
use Rattle.std.proofs.Common.{◌≡◌, ℕ, ◌++◌, Bool, List, [], ◌∷◌, length, Option, Some, None, refl, sym, ◌∙◌, ap, append_assoc, append-nil}
use Rattle.std.specs.Prelude.{slice_get, cond}
use Rattle.std.proofs.lemmas.Bool.{cond_both, eq-eqb, ne_eqb}
use Rattle.model_bus.specs.Request.{Kept, Entry, Carried, carried_by}
use Rattle.model_bus.specs.Carried.{Outcome, Repeats, IsBusy, IsNew, outcome, log_after, carried_after}
use Rattle.model_bus.specs.Numbering.{Rules}
use Rattle.model_bus.specs.BusState.{request_of, Content, Ask, Reply, Frame, BusState, Event, Begins, SendsAgain, ReachesPort, ReachesManager, OtherAsks, IsIdle, Resumes, is_open, begins, sends_again, comes, takes_if, taken_now, taken_from, OtherReplies, at_port, happens, run}
use Rattle.model_bus.specs.Schedule.{IsHonest, AllHonest}
use Rattle.model_bus.specs.Start.{NothingUnderWay}

-- a log shows of the manager what it did before, and then these
abbrev pub InLog : ℕ → List Entry → List Entry → List Kept → Type 0
InLog m before log carried = carried_by m log ≡ carried_by m before ++ carried

pub carried_by-mine : (m : ℕ) (k : Kept) (log : List Entry) → k.request.requester ≡ m → carried_by m (Carried k ∷ log) ≡ carried_by m log ++ k ∷ []
carried_by-mine m k log e = ap (λ (t : Bool). cond t (carried_by m log ++ k ∷ []) (carried_by m log)) (eq-eqb k.request.requester m e)

pub carried_by-other : (m : ℕ) (k : Kept) (log : List Entry) → (k.request.requester ≡ m → ⊥) → carried_by m (Carried k ∷ log) ≡ carried_by m log
carried_by-other m k log e = ap (λ (t : Bool). cond t (carried_by m log ++ k ∷ []) (carried_by m log)) (ne_eqb k.request.requester m e)

mine : (m : ℕ) (before log : List Entry) (carried : List Kept) (k : Kept) (o : Outcome) → k.request.requester ≡ m → InLog m before log carried → InLog m before (log_after o k log) (carried_after o k carried)
mine m before log carried k (Repeats reply) e h = h
mine m before log carried k IsBusy e h = h
mine m before log carried k IsNew e h = carried_by-mine m k log e ∙ ap (λ (ks : List Kept). ks ++ k ∷ []) h ∙ append_assoc (carried_by m before) carried (k ∷ [])

other : (m : ℕ) (before log : List Entry) (carried : List Kept) (k : Kept) (o : Outcome) → (k.request.requester ≡ m → ⊥) → InLog m before log carried → InLog m before (log_after o k log) carried
other m before log carried k (Repeats reply) e h = h
other m before log carried k IsBusy e h = h
other m before log carried k IsNew e h = carried_by-other m k log e ∙ h

module _ (b : Rules) (before : List Entry) where
  -- the log of a bus does
  abbrev pub LogShows : BusState → Type 0
  LogShows s = InLog b.manager before s.log s.carried

  pub start_shows : (s : BusState) → NothingUnderWay s → s.log ≡ before → LogShows s
  start_shows s start is = ap (carried_by b.manager) is ∙ sym (append-nil (carried_by b.manager before)) ∙ ap (λ (ks : List Kept). carried_by b.manager before ++ ks) (sym start.carried)

  pub comes_shows : (answer : List ℕ) (n : ℕ) (c : Content) (s : BusState) → LogShows s → LogShows (comes b answer n c s)
  comes_shows answer n (Ask bytes) s h = mine b.manager before s.log s.carried (record { request = request_of b n bytes; reply = answer }) (outcome b.is_above (request_of b n bytes) s.log) refl h
  comes_shows answer n (Reply number reply) s h = h

  at_port_shows : (answer : List ℕ) (o : Option Frame) (s : BusState) → LogShows s → LogShows (at_port b answer o s)
  at_port_shows answer None s h = h
  at_port_shows answer (Some f) s h = comes_shows answer f.request f.content s h

  pub takes_shows : (o : Option (List ℕ)) (s : BusState) → LogShows s → LogShows (takes_if o s)
  takes_shows None s h = h
  takes_shows (Some reply) s h = h

  again_shows : (o : Option (List ℕ)) (s : BusState) → LogShows s → LogShows (sends_again b o s)
  again_shows None s h = h
  again_shows (Some bytes) s h = h

  pub happens_shows : (s : BusState) (e : Event) → LogShows s → IsHonest b s e → LogShows (happens b s e)
  happens_shows s (Begins bytes) h honest = cond_both (is_open s) s (begins b bytes s) LogShows (λ _. h) (λ _. h)
  happens_shows s SendsAgain h honest = again_shows (slice_get s.begun (length s.taken)) s h
  happens_shows s (ReachesPort which answer) h honest = at_port_shows answer (slice_get s.frames which) s h
  happens_shows s (ReachesManager which) h honest = takes_shows (taken_now b (slice_get s.frames which) s) s h
  happens_shows s (OtherAsks request answer) h honest = other b.manager before s.log s.carried (record { request = request; reply = answer }) (outcome b.is_above request s.log) honest h
  happens_shows s (OtherReplies source number reply) h honest = takes_shows (taken_from b source number reply s) s h
  happens_shows s (IsIdle requester) h honest = h
  happens_shows s Resumes h honest = h

  pub run_shows : (events : List Event) (s : BusState) → LogShows s → AllHonest b events s → LogShows (run b events s)
  run_shows [] s h honest = h
  run_shows (e ∷ es) s h honest = run_shows es (happens b s e) (happens_shows s e h honest.0) honest.1

-- A manager that goes on from a list does what the one would have done from which the list was taken.
use Rattle.std.proofs.Common.{◌≡◌, ℕ, Bool, true, false, List, [], ◌∷◌, length, Option, Some, None, refl, sym, ap, subst, arith}
use Rattle.std.specs.Prelude.{nat_lt, if◌then◌else◌, ◌==◌}
use Rattle.std.specs.Option.{option_map}
use Rattle.std.proofs.lemmas.Option.{none-some}
use Rattle.two_wire.specs.Codes.{success}
use Rattle.two_wire.specs.declared.Bus.{Bus}
use Rattle.two_wire.specs.declared.Bus.TheVariants.{Ipmb, Smbus}
use Rattle.model_bus.specs.Answered.{Answered}
use Rattle.model_undo.specs.declared.call.Call.TheVariants as manager_call
use Rattle.model_undo.specs.Words.{is_busy, Words}
use Rattle.model_undo.specs.Machine.{Counts, count_of, one_answered, Part, Gets, Sets, Undoes, Stage, AtStart, Opened, AtEnd, AtHalt, AtUndone, AtRefused, Machine, Turn, bus_at, told_stage, bodies_with, next_asked, sending, sends_at, enters, phase_at, phase_of, undo_stage, starts, undoes, quiets, agains, stops, replies}
use Rattle.model_undo.specs.Resume.{list_of, resumed, Input, Called, Replies, turn_of, after, request_of, goes_out, trace, IsOver, GoesOnAlike}
use Rattle.model_undo.specs.Wires.{number_of}
use Rattle.model_undo.proofs.World.{round}

module _ (M : Words) where
  -- it is past the plan: undoing, or at the end of that
  abbrev pub IsPast : Stage M → Type 0
  IsPast (Opened heeded (Undoes u us) part) = Unit {0}
  IsPast AtUndone = Unit {0}
  IsPast (AtRefused k code) = Unit {0}
  IsPast _ = ⊥

  abbrev pub SameNumbers : Counts → Counts → Type 0
  SameNumbers c d = (bus : Bus) → number_of bus (count_of bus c) ≡ number_of bus (count_of bus d)

  -- what a manager past the plan no longer looks at, or only by its numbers
  pub record Rest : Type 0 where
    pub plan : List M.Op
    pub stopped : Bool
    pub undo : List M.Series
    pub counts : Counts

  abbrev pub with_rest : Rest → Machine M → Machine M
  with_rest r m = record m { plan = r.plan; stopped = r.stopped; undo = r.undo; counts = r.counts }

  -- one is the other but for that
  pub record IsAlike (m n : Machine M) : Type 0 where
    pub rest : Rest
    pub is : n ≡ with_rest rest m
    pub past : IsPast m.stage
    pub numbers : SameNumbers rest.counts m.counts

  abbrev pub AreAlike : Option (Turn M) → Option (Turn M) → Type 0
  AreAlike None None = Unit {0}
  AreAlike (Some t) (Some u) = IsAlike t.machine u.machine × (option_map (request_of M) u.sends ≡ option_map (request_of M) t.sends)
  AreAlike None (Some u) = ⊥
  AreAlike (Some t) None = ⊥

  same_request : (part : Part M) (c d : Counts) → SameNumbers c d → option_map (request_of M) (Some (sending M part c)) ≡ option_map (request_of M) (Some (sending M part d))
  same_request part c d same = λ i. Some (record { bus = bus_at M part; number = same (bus_at M part) i; asked = part.asked })

  same_sends : (stage : Stage M) (c d : Counts) → SameNumbers c d → option_map (request_of M) (sends_at M stage c) ≡ option_map (request_of M) (sends_at M stage d)
  same_sends (Opened heeded task part) c d same = same_request part c d same
  same_sends AtStart c d same = refl
  same_sends AtEnd c d same = refl
  same_sends (AtHalt k why) c d same = refl
  same_sends AtUndone c d same = refl
  same_sends (AtRefused k code) c d same = refl

  -- a stage past the plan is entered
  entered : (stage : Stage M) (m : Machine M) (r : Rest) → IsPast stage → SameNumbers r.counts m.counts → AreAlike (Some (enters M stage m)) (Some (enters M stage (with_rest r m)))
  entered stage m r past same = (record { rest = r; is = refl; past = past; numbers = same }, same_sends stage r.counts m.counts same)

  undo_past : (undo : List M.Series) → IsPast (undo_stage M undo)
  undo_past [] = tt
  undo_past (u ∷ us) = tt

  next_same : (bus any : Bus) (c d : Counts) → number_of any (count_of any c) ≡ number_of any (count_of any d) → number_of any (count_of any (one_answered bus c)) ≡ number_of any (count_of any (one_answered bus d))
  next_same Ipmb Ipmb c d same = omega arith
  next_same Ipmb Smbus c d same = same
  next_same Smbus Ipmb c d same = same
  next_same Smbus Smbus c d same = omega arith

  -- ---- each call

  start_alike : (stage : Stage M) (m : Machine M) (r : Rest) → IsPast stage → AreAlike (starts M stage m) (starts M stage (with_rest r m))
  start_alike AtStart m r past = absurd past
  start_alike (Opened heeded task part) m r past = tt
  start_alike AtEnd m r past = tt
  start_alike (AtHalt k why) m r past = tt
  start_alike AtUndone m r past = tt
  start_alike (AtRefused k code) m r past = tt

  undo_alike : (stage : Stage M) (m : Machine M) (r : Rest) → IsPast stage → AreAlike (undoes M stage m) (undoes M stage (with_rest r m))
  undo_alike AtStart m r past = tt
  undo_alike (Opened heeded task part) m r past = tt
  undo_alike AtEnd m r past = absurd past
  undo_alike (AtHalt k why) m r past = absurd past
  undo_alike AtUndone m r past = tt
  undo_alike (AtRefused k code) m r past = tt

  stop_alike : (stage : Stage M) (m : Machine M) (r : Rest) → IsPast stage → AreAlike (stops M stage m) (stops M stage (with_rest r m))
  stop_alike AtStart m r past = tt
  stop_alike (Opened true (Gets k op) part) m r past = absurd past
  stop_alike (Opened true (Sets k op back) part) m r past = absurd past
  stop_alike (Opened true (Undoes u us) part) m r past = tt
  stop_alike (Opened false task part) m r past = tt
  stop_alike AtEnd m r past = tt
  stop_alike (AtHalt k why) m r past = tt
  stop_alike AtUndone m r past = tt
  stop_alike (AtRefused k code) m r past = tt

  again_alike : (stage : Stage M) (m : Machine M) (r : Rest) → IsPast stage → SameNumbers r.counts m.counts → AreAlike (agains M stage m) (agains M stage (with_rest r m))
  again_alike AtStart m r past same = tt
  again_alike (Opened true task part) m r past same = tt
  again_alike (Opened false (Undoes u us) part) m r past same = entered (Opened true (Undoes u us) part) m r tt same
  again_alike (Opened false (Gets k op) part) m r past same = absurd past
  again_alike (Opened false (Sets k op back) part) m r past same = absurd past
  again_alike AtEnd m r past same = tt
  again_alike (AtHalt k why) m r past same = tt
  again_alike AtUndone m r past same = tt
  again_alike (AtRefused k code) m r past same = tt

  -- the first of two, or the second, by a test that is the same for both
  either_alike : (b : Bool) (t t' u u' : Option (Turn M)) → AreAlike t t' → AreAlike u u' → AreAlike (if b then t else u) (if b then t' else u')
  either_alike true t t' u u' h k = h
  either_alike false t t' u u' h k = k

  quiet_alike : (stage : Stage M) (m : Machine M) (r : Rest) → stage ≡ m.stage → IsPast stage → SameNumbers r.counts m.counts → AreAlike (quiets M stage m) (quiets M stage (with_rest r m))
  quiet_alike (Opened true (Undoes u us) part) m r e past same =
      either_alike (nat_lt m.resent m.retries) _ _ _ _
      (record { rest = r; is = refl; past = subst IsPast e tt; numbers = same }, same_request part r.counts m.counts same)
      (record { rest = r; is = refl; past = tt; numbers = same }, refl)
  quiet_alike (Opened true (Gets k op) part) m r e past same = absurd past
  quiet_alike (Opened true (Sets k op back) part) m r e past same = absurd past
  quiet_alike (Opened false task part) m r e past same = tt
  quiet_alike AtStart m r e past same = tt
  quiet_alike AtEnd m r e past same = tt
  quiet_alike (AtHalt k why) m r e past same = tt
  quiet_alike AtUndone m r e past same = tt
  quiet_alike (AtRefused k code) m r e past same = tt

  -- a reply to a request that undoes
  told_past : (stopped : Bool) (plan : List M.Op) (u : M.Series) (us : List M.Series) (bodies : List (List ℕ)) (o : Option M.Asked) → IsPast (told_stage M stopped plan (Undoes u us) bodies o)
  told_past stopped plan u us bodies (Some asked) = tt
  told_past stopped plan u us bodies None = undo_past us

  -- the same stage, whatever the plan is, and whether it is to stop
  told_same : (stopped any : Bool) (plan other : List M.Op) (u : M.Series) (us : List M.Series) (bodies : List (List ℕ)) (o : Option M.Asked)
      → told_stage M stopped plan (Undoes u us) bodies o ≡ told_stage M any other (Undoes u us) bodies o
  told_same stopped any plan other u us bodies (Some asked) = refl
  told_same stopped any plan other u us bodies None = refl

  told_alike : (bus : Bus) (a : Answered) (u : M.Series) (us : List M.Series) (part : Part M) (o : Option M.Asked) (m : Machine M) (r : Rest) → SameNumbers r.counts m.counts
      → let bodies = bodies_with M a part in
      AreAlike (Some (enters M (told_stage M m.stopped m.plan (Undoes u us) bodies o) (record m { counts = one_answered bus m.counts })))
      (Some (enters M (told_stage M r.stopped r.plan (Undoes u us) bodies o) (record (with_rest r m) { counts = one_answered bus r.counts })))
  told_alike bus a u us part o m r same =
      let bodies = bodies_with M a part in
      subst (λ (s : Stage M). AreAlike (Some (enters M (told_stage M m.stopped m.plan (Undoes u us) bodies o) (record m { counts = one_answered bus m.counts })))
      (Some (enters M s (record (with_rest r m) { counts = one_answered bus r.counts }))))
      (told_same m.stopped r.stopped m.plan r.plan u us bodies o)
      (entered (told_stage M m.stopped m.plan (Undoes u us) bodies o) (record m { counts = one_answered bus m.counts }) (record r { counts = one_answered bus r.counts })
      (told_past m.stopped m.plan u us bodies o) (λ any. next_same bus any r.counts m.counts (same any)))

  reverted : (b : Bool) (a : Answered) (u : M.Series) (us : List M.Series) (part : Part M) (m : Machine M) (r : Rest) → SameNumbers r.counts m.counts
      → let bus = bus_at M part in
      let bodies = bodies_with M a part in
      let next = next_asked M a (Undoes u us) part in
      AreAlike (Some (enters M (if b then told_stage M m.stopped m.plan (Undoes u us) bodies next else AtRefused (length us) a.code) (record m { counts = one_answered bus m.counts })))
      (Some (enters M (if b then told_stage M r.stopped r.plan (Undoes u us) bodies next else AtRefused (length us) a.code) (record (with_rest r m) { counts = one_answered bus r.counts })))
  reverted true a u us part m r same = told_alike (bus_at M part) a u us part (next_asked M a (Undoes u us) part) m r same
  reverted false a u us part m r same =
      let bus = bus_at M part in
      entered (AtRefused (length us) a.code) (record m { counts = one_answered bus m.counts }) (record r { counts = one_answered bus r.counts }) tt (λ any. next_same bus any r.counts m.counts (same any))

  reply_alike : (stage : Stage M) (a : Answered) (m : Machine M) (r : Rest) → IsPast stage → SameNumbers r.counts m.counts → AreAlike (replies M a stage m) (replies M a stage (with_rest r m))
  reply_alike (Opened true (Undoes u us) part) a m r past same = either_alike (is_busy a.code) None None _ _ tt (reverted (a.code == success) a u us part m r same)
  reply_alike (Opened true (Gets k op) part) a m r past same = absurd past
  reply_alike (Opened true (Sets k op back) part) a m r past same = absurd past
  reply_alike (Opened false task part) a m r past same = tt
  reply_alike AtStart a m r past same = tt
  reply_alike AtEnd a m r past same = tt
  reply_alike (AtHalt k why) a m r past same = tt
  reply_alike AtUndone a m r past same = tt
  reply_alike (AtRefused k code) a m r past same = tt

  call_alike : (c : Input) (m : Machine M) (r : Rest) → IsPast m.stage → SameNumbers r.counts m.counts → AreAlike (turn_of M c m) (turn_of M c (with_rest r m))
  call_alike (Called manager_call.Start) m r past same = start_alike m.stage m r past
  call_alike (Called manager_call.Quiet) m r past same = quiet_alike m.stage m r refl past same
  call_alike (Called manager_call.Stop) m r past same = stop_alike m.stage m r past
  call_alike (Called manager_call.Again) m r past same = again_alike m.stage m r past same
  call_alike (Called manager_call.Undo) m r past same = undo_alike m.stage m r past
  call_alike (Replies a) m r past same = reply_alike m.stage a m r past same

  -- ---- many calls

  after_alike : (o p : Option (Turn M)) (m n : Machine M) → IsAlike m n → AreAlike o p → IsAlike (after M o m) (after M p n)
  after_alike None None m n h alike = h
  after_alike (Some t) (Some u) m n h alike = alike.0
  after_alike None (Some u) m n h alike = absurd alike
  after_alike (Some t) None m n h alike = absurd alike

  same_out : (o p : Option (Turn M)) → AreAlike o p → goes_out M p ≡ goes_out M o
  same_out None None alike = refl
  same_out (Some t) (Some u) alike = alike.1
  same_out None (Some u) alike = absurd alike
  same_out (Some t) None alike = absurd alike

  pub same_phase : (m n : Machine M) → IsAlike m n → phase_of M n ≡ phase_of M m
  same_phase m n h = ap (λ (x : Machine M). phase_at M x.stage) h.is

  pub any_alike : (c : Input) (m n : Machine M) → IsAlike m n → AreAlike (turn_of M c m) (turn_of M c n)
  any_alike c m n h = subst (λ (x : Machine M). AreAlike (turn_of M c m) (turn_of M c x)) (sym h.is) (call_alike c m h.rest h.past h.numbers)

  one_more : (c : Input) (calls : List Input) (m n : Machine M) → IsAlike (after M (turn_of M c m) m) (after M (turn_of M c n) n) → AreAlike (turn_of M c m) (turn_of M c n)
      → trace M calls (after M (turn_of M c n) n) ≡ trace M calls (after M (turn_of M c m) m) → trace M (c ∷ calls) n ≡ trace M (c ∷ calls) m
  one_more c calls m n next alike rest =
      let phase = same_phase (after M (turn_of M c m) m) (after M (turn_of M c n) n) next in
      let out = same_out (turn_of M c m) (turn_of M c n) alike in
      λ i. (phase i, out i) ∷ rest i

  trace_alike : (calls : List Input) (m n : Machine M) → IsAlike m n → trace M calls n ≡ trace M calls m
  trace_alike [] m n h = refl
  trace_alike (c ∷ cs) m n h =
      let alike = any_alike c m n h in
      let next = after_alike (turn_of M c m) (turn_of M c n) m n h alike in
      one_more c cs m n next alike (trace_alike cs (after M (turn_of M c m) m) (after M (turn_of M c n) n) next)

  -- ---- the list is taken where the plan ended or halted

  undo_begun : (m : Machine M) → AreAlike (Some (enters M (undo_stage M m.undo) m)) (Some (enters M (undo_stage M m.undo) (resumed M m.retries (list_of M m))))
  undo_begun m = (
    record {
      rest = record { plan = []; stopped = true; undo = m.undo; counts = (list_of M m).next };
      is = refl;
      past = undo_past m.undo;
      numbers = λ bus. round bus m.counts;
    },
    same_sends (undo_stage M m.undo) (list_of M m).next m.counts (λ bus. round bus m.counts),
  )

  pub over_alike : (stage : Stage M) (m : Machine M) → IsOver M (phase_at M stage) → AreAlike (undoes M stage m) (turn_of M (Called manager_call.Undo) (resumed M m.retries (list_of M m)))
  over_alike AtEnd m over = undo_begun m
  over_alike (AtHalt k why) m over = undo_begun m
  over_alike AtStart m over = absurd over
  over_alike (Opened true (Gets k op) part) m over = absurd over
  over_alike (Opened true (Sets k op back) part) m over = absurd over
  over_alike (Opened true (Undoes u us) part) m over = absurd over
  over_alike (Opened false task part) m over = absurd over
  over_alike AtUndone m over = absurd over
  over_alike (AtRefused k code) m over = absurd over

  pub goes_on_alike : GoesOnAlike M
  goes_on_alike = record { halted = λ retries list. refl; none_open = λ retries list. refl; same_list = λ retries m. listed m; alike = from }
    where
      listed : (m : Machine M) → list_of M (resumed M m.retries (list_of M m)) ≡ list_of M m
      listed m = λ i. record { series = m.undo; next = record { ipmb = round Ipmb m.counts i; smbus = round Smbus m.counts i } }

      both_some : (o p : Option (Turn M)) (m n : Machine M) → AreAlike o p → ((t : Turn M) × (p ≡ Some t)) → IsAlike (after M o m) (after M p n)
      both_some (Some t) (Some u) m n alike is = alike.0
      both_some None None m n alike is = absurd (none-some is.0 is.1)
      both_some None (Some u) m n alike is = absurd alike
      both_some (Some t) None m n alike is = absurd alike

      from : (m : Machine M) → IsOver M (phase_of M m) → (calls : List Input) → trace M ((Called manager_call.Undo) ∷ calls) (resumed M m.retries (list_of M m)) ≡ trace M ((Called manager_call.Undo) ∷ calls) m
      from m over calls =
          let n = resumed M m.retries (list_of M m) in
          let alike = over_alike m.stage m over in
          let next = both_some (turn_of M (Called manager_call.Undo) m) (turn_of M (Called manager_call.Undo) n) m n alike (enters M (undo_stage M m.undo) n, refl) in
          one_more (Called manager_call.Undo) calls m n next alike (trace_alike calls (after M (turn_of M (Called manager_call.Undo) m) m) (after M (turn_of M (Called manager_call.Undo) n) n) next)

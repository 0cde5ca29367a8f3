-- A request is unsettled only where `quiet` gave it up: by what each call leaves.
use Rattle.std.proofs.Common.{◌≡◌, ℕ, suc, ◌+◌, ◌≤◌, Bool, true, false, List, [], ◌∷◌, ◌++◌, ◌⊎◌, inl, inr, Option, Some, None, replicate, refl, sym, ◌∙◌, ap, subst, arith}
use Rattle.std.specs.Prelude.{◌≢◌, nat_lt, slice_get, if◌then◌else◌, ◌==◌}
use Rattle.std.proofs.lemmas.Bool.{true≢false, ltb-true, ltb-false}
use Rattle.std.proofs.lemmas.List.{append-nil, append_assoc, replicate-append-replicate}
use Rattle.std.proofs.lemmas.Option.{none-some}
use Rattle.two_wire.specs.Codes.{success}
use Rattle.model_bus.specs.Answered.{Answered}
use Rattle.model_undo.specs.declared.call.Call.TheVariants as manager_call
use Rattle.model_undo.specs.Words.{is_busy, Words}
use Rattle.model_undo.specs.declared.phase.Phase.TheVariants.{Unsettled}
use Rattle.model_undo.specs.Machine.{Counts, one_answered, Task, Part, Gets, Sets, Undoes, Stage, AtStart, Opened, AtEnd, AtHalt, AtUndone, AtRefused, Machine, Sending, Turn, task_step, task_phase, phase_at, phase_of, open_bus_at, bus_at, sending, enters, first_stage, undo_stage, set_stage, next_stage, refused, goes_on, finished, told_stage, stage_after, bodies_with, next_asked, starts, undoes, quiets, agains, stops, replies, takes, undo_after}
use Rattle.model_undo.specs.Resume.{Input, Called, Replies, turn_of, after}
use Rattle.model_undo.specs.Unsettled.{run, sent_by, sent_in, IsGivenUp, UnsettledByQuiet}

-- a list that goes on
grows : {A : Type 0} (all xs ys more : List A) → all ≡ xs ++ ys → all ++ more ≡ xs ++ (ys ++ more)
grows {A} all xs ys more is = ap (λ (zs : List A). zs ++ more) is ∙ append_assoc xs ys more

-- no call is another
abbrev is_quiet : Input → Bool
is_quiet (Called manager_call.Quiet) = true
is_quiet _ = false

no_quiet : (c : Input) → is_quiet c ≡ false → c ≢ (Called manager_call.Quiet)
no_quiet c other is = true≢false (sym (ap is_quiet is) ∙ other)

module _ (M : Words) where
  -- ---- calls one after another

  run_more : (xs ys : List Input) (m : Machine M) → run M (xs ++ ys) m ≡ run M ys (run M xs m)
  run_more [] ys m = refl
  run_more (x ∷ xs) ys m = run_more xs ys (after M (turn_of M x m) m)

  sent_more : (xs ys : List Input) (m : Machine M) → sent_in M (xs ++ ys) m ≡ sent_in M xs m ++ sent_in M ys (run M xs m)
  sent_more [] ys m = refl
  sent_more (x ∷ xs) ys m =
      let n = after M (turn_of M x m) m in
      ap (λ (ss : List (Sending M)). sent_by M (turn_of M x m) ++ ss) (sent_more xs ys n) ∙ sym (append_assoc (sent_by M (turn_of M x m)) (sent_in M xs n) (sent_in M ys (run M xs n)))

  -- ---- stages that are entered

  abbrev IsEntered : Stage M → Type 0
  IsEntered (Opened false task part) = ⊥
  IsEntered _ = Unit {0}

  first_entered : (o : Option M.Op) → IsEntered (first_stage M o)
  first_entered None = tt
  first_entered (Some op) = tt

  undo_entered : (undo : List M.Series) → IsEntered (undo_stage M undo)
  undo_entered [] = tt
  undo_entered (u ∷ us) = tt

  set_entered : (stopped : Bool) (k : ℕ) (op : M.Op) (o : Option M.Op) → IsEntered (set_stage M stopped k op o)
  set_entered stopped k op None = tt
  set_entered true k op (Some back) = tt
  set_entered false k op (Some back) = tt

  next_entered : (stopped : Bool) (k : ℕ) (o : Option M.Op) → IsEntered (next_stage M stopped k o)
  next_entered stopped k None = tt
  next_entered true k (Some op) = tt
  next_entered false k (Some op) = tt

  refused_entered : (code : ℕ) (task : Task M) → IsEntered (refused M code task)
  refused_entered code (Gets k op) = tt
  refused_entered code (Sets k op back) = tt
  refused_entered code (Undoes u us) = tt

  goes_entered : (stopped : Bool) (task : Task M) (part : Part M) → IsEntered (goes_on M stopped task part)
  goes_entered true (Gets k op) part = tt
  goes_entered false (Gets k op) part = tt
  goes_entered stopped (Sets k op back) part = tt
  goes_entered stopped (Undoes u us) part = tt

  finished_entered : (stopped : Bool) (plan : List M.Op) (shown : List ℕ) (task : Task M) → IsEntered (finished M stopped plan shown task)
  finished_entered stopped plan shown (Gets k op) = set_entered stopped k op (M.inverse op shown)
  finished_entered stopped plan shown (Sets k op back) = next_entered stopped (suc k) (slice_get plan (suc k))
  finished_entered stopped plan shown (Undoes u us) = undo_entered us

  told_entered : (stopped : Bool) (plan : List M.Op) (task : Task M) (bodies : List (List ℕ)) (o : Option M.Asked) → IsEntered (told_stage M stopped plan task bodies o)
  told_entered stopped plan task bodies (Some asked) = goes_entered stopped task (record { asked = asked; before = bodies })
  told_entered stopped plan task bodies None = finished_entered stopped plan _ task

  after_entered : (stopped : Bool) (plan : List M.Op) (a : Answered) (task : Task M) (part : Part M) → IsEntered (stage_after M stopped plan a task part)
  after_entered stopped plan a task part = by (a.code == success)
    where
      by : (b : Bool) → IsEntered (if b then told_stage M stopped plan task (bodies_with M a part) (next_asked M a task part) else refused M a.code task)
      by true = told_entered stopped plan task (bodies_with M a part) (next_asked M a task part)
      by false = refused_entered a.code task

  -- ---- what is known after calls

  -- the request was sent as it was opened, and then sent again so often, and nothing else was
  record IsSentAgain (m : Machine M) (calls : List Input) (times : ℕ) (request : Sending M) : Type 0 where
    before : List Input
    opener : Input
    between : List Input
    all : calls ≡ before ++ opener ∷ between
    opens : opener ≢ (Called manager_call.Quiet)
    sent : sent_by M (turn_of M opener (run M before m)) ≡ request ∷ []
    sent_again : sent_in M between (run M (before ++ opener ∷ []) m) ≡ replicate times request

  abbrev KnownAt : Stage M → (resent : ℕ) → Counts → Machine M → List Input → Type 0
  KnownAt (Opened true task part) resent counts m calls = (resent ≤ m.retries) × IsSentAgain m calls resent (sending M part counts)
  KnownAt (Opened false task part) resent counts m calls = IsGivenUp M m calls (task_step M task)
  KnownAt _ resent counts m calls = Unit {0}

  record Known (n m : Machine M) (calls : List Input) : Type 0 where
    retries : n.retries ≡ m.retries
    at : KnownAt n.stage n.resent n.counts m calls

  -- one more call
  module _ (m : Machine M) (calls : List Input) (c : Input) (n : Machine M) (is : run M calls m ≡ n) where
    abbrev more : List Input
    more = calls ++ c ∷ []

    -- the machine is this one, behind the calls in which the request was sent again
    there : (before between : List Input) (opener : Input) → calls ≡ before ++ opener ∷ between → run M between (run M (before ++ opener ∷ []) m) ≡ n
    there before between opener all =
        sym (run_more (before ++ opener ∷ []) between m) ∙ ap (λ (cs : List Input). run M cs m) (append_assoc before (opener ∷ []) between ∙ sym all) ∙ is

    -- so often again, and once more or not
    again : (times others : ℕ) (request : Sending M) (o : Option (Turn M)) → turn_of M c n ≡ o → sent_by M o ≡ replicate others request → IsSentAgain m calls times request
        → IsSentAgain m more (times + others) request
    again times others request o turn sends known = record {
      before = known.before;
      opener = known.opener;
      between = known.between ++ c ∷ [];
      all = grows calls known.before (known.opener ∷ known.between) (c ∷ []) known.all;
      opens = known.opens;
      sent = known.sent;
      sent_again =
          sent_more known.between (c ∷ []) (run M (known.before ++ known.opener ∷ []) m)
          ∙ (λ i. known.sent_again i ++ sent_in M (c ∷ []) (there known.before known.between known.opener known.all i))
          ∙ ap (λ (ss : List (Sending M)). replicate times request ++ ss) (append-nil (sent_by M (turn_of M c n)) ∙ ap (sent_by M) turn ∙ sends)
          ∙ replicate-append-replicate times others request;
    }

    -- it stays given up
    still_given_up : (k : ℕ) → IsGivenUp M m calls k → IsGivenUp M m more k
    still_given_up k up = record {
      before = up.before;
      opener = up.opener;
      between = up.between;
      later = up.later ++ c ∷ [];
      all = grows calls up.before (up.opener ∷ (up.between ++ ((Called manager_call.Quiet) ∷ up.later))) (c ∷ []) up.all
          ∙ ap (λ (cs : List Input). up.before ++ up.opener ∷ cs) (append_assoc up.between ((Called manager_call.Quiet) ∷ up.later) (c ∷ []));
      request = up.request;
      opens = up.opens;
      sent = up.sent;
      sent_again = up.sent_again;
      awaited = up.awaited;
      unsettled = up.unsettled;
    }

    -- nothing is sent, and the request that is open, if one is, stays as it is
    still : (stage : Stage M) (o : Option (Turn M)) → turn_of M c n ≡ o → sent_by M o ≡ [] → KnownAt stage n.resent n.counts m calls → KnownAt stage n.resent n.counts m more
    still (Opened true task part) o turn none known =
        (known.0, subst (λ (times : ℕ). IsSentAgain m more times (sending M part n.counts)) (omega arith) (again n.resent 0 (sending M part n.counts) o turn none known.1))
    still (Opened false task part) o turn none known = still_given_up (task_step M task) known
    still AtStart o turn none known = tt
    still AtEnd o turn none known = tt
    still (AtHalt k why) o turn none known = tt
    still AtUndone o turn none known = tt
    still (AtRefused k code) o turn none known = tt

    -- a stage is entered, and its request is sent
    entered : (stage : Stage M) (x : Machine M) → c ≢ (Called manager_call.Quiet) → turn_of M c n ≡ Some (enters M stage x) → IsEntered stage → KnownAt stage 0 x.counts m more
    entered (Opened true task part) x opens turn is_entered = (
      omega arith,
      record {
        before = calls;
        opener = c;
        between = [];
        all = refl;
        opens = opens;
        sent = ap (λ (y : Machine M). sent_by M (turn_of M c y)) is ∙ ap (sent_by M) turn;
        sent_again = refl;
      },
    )
    entered (Opened false task part) x opens turn is_entered = absurd is_entered
    entered AtStart x opens turn is_entered = tt
    entered AtEnd x opens turn is_entered = tt
    entered (AtHalt k why) x opens turn is_entered = tt
    entered AtUndone x opens turn is_entered = tt
    entered (AtRefused k code) x opens turn is_entered = tt

  -- no task's phase is unsettled
  task_awaited : (task : Task M) (k : ℕ) → task_phase M task ≢ Unsettled k
  task_awaited (Gets j op) k is = cc is
  task_awaited (Sets j op back) k is = cc is
  task_awaited (Undoes u us) k is = cc is

  -- ---- quiet

  -- what `quiet` leaves of a request that is heeded
  abbrev sent_once_more : Part M → Machine M → Turn M
  sent_once_more part n = record { machine = record n { resent = n.resent + 1 }; sends = Some (sending M part n.counts) }

  abbrev left_unsettled : Task M → Part M → Machine M → Turn M
  left_unsettled task part n = record { machine = record n { stage = Opened false task part }; sends = None }

  abbrev quiet_turn : Bool → Task M → Part M → Machine M → Option (Turn M)
  quiet_turn b task part n = if b then Some (sent_once_more part n) else Some (left_unsettled task part n)

  module _ (m : Machine M) (calls : List Input) (n : Machine M) (is : run M calls m ≡ n) (task : Task M) (part : Part M) (stage : n.stage ≡ Opened true task part)
      (same : n.retries ≡ m.retries) (few : n.resent ≤ m.retries) (known : IsSentAgain m calls n.resent (sending M part n.counts)) where
    abbrev once : List Input
    once = calls ++ (Called manager_call.Quiet) ∷ []

    -- it is sent once more
    once_more : nat_lt n.resent n.retries ≡ true → turn_of M (Called manager_call.Quiet) n ≡ Some (sent_once_more part n) → KnownAt (Opened true task part) (n.resent + 1) n.counts m once
    once_more less turn = let below = ltb-true n.resent n.retries less in (omega (arith, below, same), again m calls (Called manager_call.Quiet) n is n.resent 1 (sending M part n.counts) _ turn refl known)

    -- or given up
    given_up : nat_lt n.resent n.retries ≡ false → turn_of M (Called manager_call.Quiet) n ≡ Some (left_unsettled task part n) → IsGivenUp M m once (task_step M task)
    given_up more turn =
        let all : once ≡ known.before ++ (known.opener ∷ (known.between ++ ((Called manager_call.Quiet) ∷ []))) = grows calls known.before (known.opener ∷ known.between) ((Called manager_call.Quiet) ∷ []) known.all in
        let above = ltb-false n.resent n.retries more in
        let times : n.resent ≡ m.retries = omega (arith, above, same, few) in
        record {
          before = known.before;
          opener = known.opener;
          between = known.between;
          later = [];
          all = all;
          request = sending M part n.counts;
          opens = known.opens;
          sent = known.sent;
          sent_again = known.sent_again ∙ ap (λ (k : ℕ). replicate k (sending M part n.counts)) times;
          awaited = λ k unsettled. task_awaited task k
              (sym (ap (phase_at M) stage) ∙ sym (ap (phase_of M) is) ∙ ap (λ (cs : List Input). phase_of M (run M cs m)) known.all ∙ unsettled);
          unsettled =
              ap (λ (cs : List Input). phase_of M (run M cs m)) (sym all)
              ∙ ap (phase_of M) (run_more calls ((Called manager_call.Quiet) ∷ []) m)
              ∙ ap (λ (x : Machine M). phase_of M (after M (turn_of M (Called manager_call.Quiet) x) x)) is
              ∙ ap (λ (o : Option (Turn M)). phase_of M (after M o n)) turn;
        }

    quiet_known : (b : Bool) → nat_lt n.resent n.retries ≡ b → Known (after M (turn_of M (Called manager_call.Quiet) n) n) m once
    quiet_known b e = by b e (ap (λ (s : Stage M). quiets M s n) stage ∙ ap (λ (t : Bool). quiet_turn t task part n) e)
      where
        by : (b : Bool) → nat_lt n.resent n.retries ≡ b → turn_of M (Called manager_call.Quiet) n ≡ quiet_turn b task part n → Known (after M (turn_of M (Called manager_call.Quiet) n) n) m once
        by true less turn = subst (λ (o : Option (Turn M)). Known (after M o n) m once) (sym turn)
            (record { retries = same; at = subst (λ (s : Stage M). KnownAt s (n.resent + 1) n.counts m once) (sym stage) (once_more less turn) })
        by false more turn = subst (λ (o : Option (Turn M)). Known (after M o n) m once) (sym turn) (record { retries = same; at = given_up more turn })

  -- ---- each other call

  -- nothing happens, or the plan is to stop, or a stage is entered
  record Enters (n : Machine M) (c : Input) (o : Option (Turn M)) : Type 0 where
    stage : Stage M
    from : Machine M
    same : from.retries ≡ n.retries
    opens : c ≢ (Called manager_call.Quiet)
    is_entered : IsEntered stage
    turn : o ≡ Some (enters M stage from)

  abbrev Moves : Machine M → Input → Option (Turn M) → Type 0
  Moves n c o = (o ≡ None) ⊎ ((o ≡ Some (record { machine = record n { stopped = true }; sends = None })) ⊎ Enters n c o)

  start_moves : (stage : Stage M) (n : Machine M) → Moves n (Called manager_call.Start) (starts M stage n)
  start_moves AtStart n = inr (inr (record { stage = first_stage M (slice_get n.plan 0); from = n; same = refl; opens = no_quiet (Called manager_call.Start) refl; is_entered = first_entered (slice_get n.plan 0); turn = refl }))
  start_moves (Opened heeded task part) n = inl refl
  start_moves AtEnd n = inl refl
  start_moves (AtHalt k why) n = inl refl
  start_moves AtUndone n = inl refl
  start_moves (AtRefused k code) n = inl refl

  stop_moves : (stage : Stage M) (n : Machine M) → Moves n (Called manager_call.Stop) (stops M stage n)
  stop_moves (Opened true (Gets k op) part) n = inr (inl refl)
  stop_moves (Opened true (Sets k op back) part) n = inr (inl refl)
  stop_moves (Opened true (Undoes u us) part) n = inl refl
  stop_moves (Opened false task part) n = inl refl
  stop_moves AtStart n = inl refl
  stop_moves AtEnd n = inl refl
  stop_moves (AtHalt k why) n = inl refl
  stop_moves AtUndone n = inl refl
  stop_moves (AtRefused k code) n = inl refl

  again_moves : (stage : Stage M) (n : Machine M) → Moves n (Called manager_call.Again) (agains M stage n)
  again_moves (Opened true task part) n = inl refl
  again_moves (Opened false task part) n = inr (inr (record { stage = Opened true task part; from = n; same = refl; opens = no_quiet (Called manager_call.Again) refl; is_entered = tt; turn = refl }))
  again_moves AtStart n = inl refl
  again_moves AtEnd n = inl refl
  again_moves (AtHalt k why) n = inl refl
  again_moves AtUndone n = inl refl
  again_moves (AtRefused k code) n = inl refl

  undo_enters : (n : Machine M) → Enters n (Called manager_call.Undo) (Some (enters M (undo_stage M n.undo) n))
  undo_enters n = record { stage = undo_stage M n.undo; from = n; same = refl; opens = no_quiet (Called manager_call.Undo) refl; is_entered = undo_entered n.undo; turn = refl }

  undo_moves : (stage : Stage M) (n : Machine M) → Moves n (Called manager_call.Undo) (undoes M stage n)
  undo_moves AtStart n = inl refl
  undo_moves (Opened heeded task part) n = inl refl
  undo_moves AtEnd n = inr (inr (undo_enters n))
  undo_moves (AtHalt k why) n = inr (inr (undo_enters n))
  undo_moves AtUndone n = inl refl
  undo_moves (AtRefused k code) n = inl refl

  reply_moves : (a : Answered) (stage : Stage M) (n : Machine M) → Moves n (Replies a) (replies M a stage n)
  reply_moves a (Opened true task part) n = by (is_busy a.code)
    where
      by : (b : Bool) → Moves n (Replies a) (if b then None else Some (takes M a task part n))
      by true = inl refl
      by false = inr (inr (record {
        stage = stage_after M n.stopped n.plan a task part;
        from = record n { undo = undo_after M a task part n.undo; counts = one_answered (bus_at M part) n.counts };
        same = refl;
        opens = no_quiet (Replies a) refl;
        is_entered = after_entered n.stopped n.plan a task part;
        turn = refl;
      }))
  reply_moves a (Opened false task part) n = inl refl
  reply_moves a AtStart n = inl refl
  reply_moves a AtEnd n = inl refl
  reply_moves a (AtHalt k why) n = inl refl
  reply_moves a AtUndone n = inl refl
  reply_moves a (AtRefused k code) n = inl refl

  -- ---- all calls

  module _ (m : Machine M) (calls : List Input) (n : Machine M) (is : run M calls m ≡ n) (known : Known n m calls) where
    moved : (c : Input) → Moves n c (turn_of M c n) → Known (after M (turn_of M c n) n) m (calls ++ c ∷ [])
    moved c (inl turn) = subst (λ (o : Option (Turn M)). Known (after M o n) m (calls ++ c ∷ [])) (sym turn)
        (record { retries = known.retries; at = still m calls c n is n.stage None turn refl known.at })
    moved c (inr (inl turn)) = subst (λ (o : Option (Turn M)). Known (after M o n) m (calls ++ c ∷ [])) (sym turn)
        (record { retries = known.retries; at = still m calls c n is n.stage _ turn refl known.at })
    moved c (inr (inr e)) = subst (λ (o : Option (Turn M)). Known (after M o n) m (calls ++ c ∷ [])) (sym e.turn)
        (record { retries = e.same ∙ known.retries; at = entered m calls c n is e.stage e.from e.opens e.turn e.is_entered })

    quieted : (stage : Stage M) → n.stage ≡ stage → KnownAt stage n.resent n.counts m calls → Known (after M (turn_of M (Called manager_call.Quiet) n) n) m (calls ++ (Called manager_call.Quiet) ∷ [])
    quieted (Opened true task part) at here = quiet_known m calls n is task part at known.retries here.0 here.1 (nat_lt n.resent n.retries) refl
    quieted (Opened false task part) at here = moved (Called manager_call.Quiet) (inl (ap (λ (s : Stage M). quiets M s n) at))
    quieted AtStart at here = moved (Called manager_call.Quiet) (inl (ap (λ (s : Stage M). quiets M s n) at))
    quieted AtEnd at here = moved (Called manager_call.Quiet) (inl (ap (λ (s : Stage M). quiets M s n) at))
    quieted (AtHalt k why) at here = moved (Called manager_call.Quiet) (inl (ap (λ (s : Stage M). quiets M s n) at))
    quieted AtUndone at here = moved (Called manager_call.Quiet) (inl (ap (λ (s : Stage M). quiets M s n) at))
    quieted (AtRefused k code) at here = moved (Called manager_call.Quiet) (inl (ap (λ (s : Stage M). quiets M s n) at))

    one_more : (c : Input) → Known (after M (turn_of M c n) n) m (calls ++ c ∷ [])
    one_more (Called manager_call.Start) = moved (Called manager_call.Start) (start_moves n.stage n)
    one_more (Called manager_call.Quiet) = quieted n.stage refl known.at
    one_more (Called manager_call.Stop) = moved (Called manager_call.Stop) (stop_moves n.stage n)
    one_more (Called manager_call.Again) = moved (Called manager_call.Again) (again_moves n.stage n)
    one_more (Called manager_call.Undo) = moved (Called manager_call.Undo) (undo_moves n.stage n)
    one_more (Replies a) = moved (Replies a) (reply_moves a n.stage n)

  -- those that are still to come
  goes_on_known : (m : Machine M) (done calls : List Input) (n : Machine M) → run M done m ≡ n → Known n m done → Known (run M calls n) m (done ++ calls)
  goes_on_known m done [] n is known = subst (Known n m) (sym (append-nil done)) known
  goes_on_known m done (c ∷ cs) n is known =
      let next = after M (turn_of M c n) n in
      let there : run M (done ++ c ∷ []) m ≡ next = run_more done (c ∷ []) m ∙ ap (λ (x : Machine M). after M (turn_of M c x) x) is in
      subst (Known (run M cs next) m) (append_assoc done (c ∷ []) cs) (goes_on_known m (done ++ c ∷ []) cs next there (one_more m done n is known c))

  -- where no request is open nothing has to be known
  none_known : (stage : Stage M) (m : Machine M) → open_bus_at M stage ≡ None → KnownAt stage m.resent m.counts m []
  none_known (Opened heeded task part) m none = absurd (none-some _ (sym none))
  none_known AtStart m none = tt
  none_known AtEnd m none = tt
  none_known (AtHalt k why) m none = tt
  none_known AtUndone m none = tt
  none_known (AtRefused k code) m none = tt

  -- an unsettled request was given up
  found : (m : Machine M) (calls : List Input) (k resent : ℕ) (counts : Counts) (stage : Stage M) → KnownAt stage resent counts m calls → phase_at M stage ≡ Unsettled k → IsGivenUp M m calls k
  found m calls k resent counts (Opened false task part) known is = let same : task_step M task ≡ k = cc is in subst (IsGivenUp M m calls) same known
  found m calls k resent counts (Opened true task part) known is = absurd (task_awaited task k is)
  found m calls k resent counts AtStart known is = absurd cc
  found m calls k resent counts AtEnd known is = absurd cc
  found m calls k resent counts (AtHalt j why) known is = absurd cc
  found m calls k resent counts AtUndone known is = absurd cc
  found m calls k resent counts (AtRefused j code) known is = absurd cc

  pub unsettled_by_quiet : UnsettledByQuiet M
  unsettled_by_quiet m none calls k is =
      let known = goes_on_known m [] calls m refl (record { retries = refl; at = none_known m.stage m none }) in
      let n = run M calls m in
      found m calls k n.resent n.counts n.stage known.at is

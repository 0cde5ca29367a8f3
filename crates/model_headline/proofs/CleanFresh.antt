-- On a clean link each frame is delivered while its request is the newest, and few were sent; so a lab takes each event of a clean schedule.
use Rattle.std.proofs.Common.{◌≡◌, ℕ, zero, suc, ◌+◌, ◌≤◌, ◌<◌, Bool, true, false, cond, not, List, [], ◌∷◌, ◌++◌, length, map, Option, Some, None, refl, sym, ◌∙◌, ap, subst, arith, append_assoc, length-append, ◌⊎◌, inl, inr}
use Rattle.std.specs.Prelude.{slice_get, IfSome, nat_le}
use Rattle.std.proofs.lemmas.Bool.{and_from, le-leb, eq-eqb}
use Rattle.std.proofs.lemmas.Bool.Decides.{nat_tests}
use Rattle.std.proofs.lemmas.Option.{none-some, same_Some}
use Rattle.two_wire.specs.declared.Bus.{Bus}
use Rattle.two_wire.specs.declared.Bus.TheVariants.{Ipmb, Smbus}
use Rattle.cfg_records.specs.declared.board_file.BoardFile.{BoardFile}
use Rattle.model_bus.specs.Request.{idles_of}
use Rattle.model_bus.specs.Circle.{span_of}
use Rattle.model_undo.specs.Machine.{Stage, AtStart, Opened, AtEnd, AtHalt, AtUndone, AtRefused, Machine, bus_at, enters, count_of}
use Rattle.bmc_core.specs.Values.{Value}
use Rattle.bmc_core.specs.PortSteps.{hears}
use Rattle.model_lab.specs.ManagerSteps.{own_on, Plans, ManagerState, ManagerStepResult, Sent, goes_on, manager_hears}
use Rattle.model_lab.specs.declared.way.Way.{Way}
use Rattle.model_lab.specs.declared.way.Way.TheVariants.{ToPort, ToManager, ToOthers}
use Rattle.model_lab.specs.Lab.{LabFrame, Event, ToBmc, ToMgr, Lab, idles_on, port_on, frame_now, port_does, delivered, returned, manager_does, step, run}
use Rattle.model_lab.specs.declared.fault.Fault.{Fault}
use Rattle.model_lab.specs.declared.fault.Fault.TheVariants.{Aged, Room}
use Rattle.model_lab.specs.Faults.{most_frames, begun_on, is_open_bus, is_live, is_full, delivery, first_of, fault_of, AllTaken}
use Rattle.model_lab.specs.Clean.{delivery_in, DeliversFrom}
use Rattle.model_headline.specs.Each.{Each}
use Rattle.model_headline.proofs.Each.{each_append, each_imply, each_map, each_by_place}
use Rattle.model_headline.proofs.CleanQueue as queue
use Rattle.model_headline.proofs.CleanQueue.{Due, due, AreDue, due_more, Link, link_of, dues_of, manager_goes, frames_due, opens_same, first_goes, next_of, settles, Shows, found, none_found, append_none}

-- so many frames are due
due_count : (ds : List Due) (fs : List LabFrame) → AreDue ds fs → length fs ≡ length ds
due_count [] fs a = ap (λ (l : List LabFrame). length l) a
due_count (d ∷ ds) fs (request, idles, rest, e, a) = let more = due_count ds rest a in let one = ap (λ (l : List LabFrame). length l) e in omega arith

one_open : (t : Bool) (n : ℕ) → n + cond t 1 0 ≤ n + 1
one_open true n = omega arith
one_open false n = omega arith

module _ (P : Plans) where
  -- no window was forgotten
  abbrev pub NoIdles : Link P → Type 0
  NoIdles l = (q : ℕ) → (idles_of q l.ipmb.log ≡ 0) × (idles_of q l.smbus.log ≡ 0)

  -- what is sent is of the request that was begun last on its bus
  abbrev pub SendsNewest : ManagerStepResult P → Type 0
  SendsNewest d = IfSome d.sent (λ s. begun_on P.words s.on d.manager.machine ≤ s.request + 1)

  -- so it is as a stage is entered
  pub sends_newest : (m : ManagerState P) (stage : Stage P.words) (machine : Machine P.words) → SendsNewest (goes_on P m (enters P.words stage machine))
  sends_newest m (Opened heeded task part) machine = one_open (is_open_bus (bus_at P.words part) (Some (bus_at P.words part))) (count_of (bus_at P.words part) machine.counts)
  sends_newest m AtStart machine = tt
  sends_newest m AtEnd machine = tt
  sends_newest m (AtHalt k why) machine = tt
  sends_newest m AtUndone machine = tt
  sends_newest m (AtRefused k code) machine = tt

  -- the frame's request is the newest on its bus, and no window was forgotten before it was sent
  pub record IsNewest (x : Lab P) (f : LabFrame) : Type 0 where
    pub newest : begun_on P.words f.on x.manager.machine ≤ f.request + 1
    pub idles : f.idles ≡ 0

module _ (P : Plans) (setup : BoardFile) where
  -- the lab's frames from this number on are those in the queue, and each is of the newest request
  pub record Fresh (x : Lab P) (number : ℕ) (ds : List Due) : Type 0 where
    pub shows : Shows P setup x number ds
    pub each : Each (IsNewest P x) shows.waiting

  -- ---- what a link does in its next deliveries

  -- as the manager hears a frame nothing comes of it, or the frame is the last that was due
  abbrev pub CalmFirst : Way → Value → List Due → Link P → Type 0
  CalmFirst ToPort v ds l = Unit {0}
  CalmFirst ToManager v ds l = let d = manager_hears P v l.manager in ((d.manager.machine ≡ l.manager.machine) × (d.sent ≡ None)) ⊎ ((ds ≡ []) × SendsNewest P d)
  CalmFirst ToOthers v ds l = ⊥

  abbrev pub CalmNext : List Due → Link P → Type 0
  CalmNext [] l = Unit {0}
  CalmNext (d ∷ ds) l = (length ds ≤ 4) × CalmFirst d.way d.value ds l

  abbrev pub Calm : ℕ → Link P → Type 0
  Calm zero l = NoIdles P l
  Calm (suc n) l = NoIdles P l × CalmNext l.queue l × Calm n (next_of P setup l.queue l)

  pub calm_more : (m n : ℕ) (l : Link P) → Calm m l → Calm n (settles P setup m l) → Calm (m + n) l
  calm_more zero n l one two = let same : 0 + n ≡ n = omega arith in subst (λ (k : ℕ). Calm k l) (sym same) two
  calm_more (suc m) n l one two = let same : suc m + n ≡ suc (m + n) = omega arith in subst (λ (k : ℕ). Calm k l) (sym same) (one.0, one.1, calm_more m n (next_of P setup l.queue l) one.2 two)

  calm_idles : (n : ℕ) (l : Link P) → Calm n l → NoIdles P l
  calm_idles zero l c = c
  calm_idles (suc n) l c = c.0

  -- ---- the frame in front is taken

  frames_count : (x : Lab P) (number : ℕ) (ds : List Due) → Shows P setup x number ds → length x.frames ≡ number + length ds
  frames_count x number ds s =
      let all = ap (λ (l : List LabFrame). length l) s.frames ∙ length-append s.done s.waiting in
      let done = s.count in let more = due_count ds s.waiting s.are in omega arith

  pub has_room : (x : Lab P) (number : ℕ) (ds : List Due) → Shows P setup x number ds → number + length ds < most_frames → is_full P x ≡ false
  has_room x number ds s small = by (length x.frames) (frames_count x number ds s)
    where
      by : (n : ℕ) → n ≡ number + length ds → nat_le most_frames n ≡ false
      by n e = let below : n < most_frames = omega (arith, e, small) in grind (arith, nat_tests)

  within : (on : Bus) (n request : ℕ) → n ≤ request + 1 → n ≤ request + span_of on
  within Ipmb n request h = omega (arith, h)
  within Smbus n request h = omega (arith, h)

  live_now : (x : Lab P) (f : LabFrame) → IsNewest P x f → NoIdles P (link_of P x []) → is_live P x f ≡ true
  live_now x f n none =
      and_from _ _ (le-leb (begun_on P.words f.on x.manager.machine) (f.request + span_of f.on) (within f.on _ f.request n.newest))
      (eq-eqb f.idles (idles_on P f.on x) (n.idles ∙ sym (by f.on)))
    where
      by : (on : Bus) → idles_on P on x ≡ 0
      by Ipmb = (none (own_on Ipmb x.manager.names)).0
      by Smbus = (none (own_on Smbus x.manager.names)).1

  abbrev unless : Fault → Bool → Option Fault → Option Fault
  unless fault t rest = cond t (Some fault) rest

  taken_live : (x : Lab P) (f : LabFrame) → is_live P x f ≡ true → is_full P x ≡ false → unless Aged (not (is_live P x f)) (unless Room (is_full P x) None) ≡ None
  taken_live x f live room = ap (λ (t : Bool). unless Aged (not t) (unless Room (is_full P x) None)) live ∙ ap (λ (t : Bool). unless Room t None) room

  abbrev frame_of : (x : Lab P) (number : ℕ) (d : Due) (ds : List Due) → Shows P setup x number (d ∷ ds) → LabFrame
  frame_of x number d ds s = record { on = d.on; way = d.way; request = s.are.0; idles = s.are.1; value = d.value }

  front_newest : (x : Lab P) (number : ℕ) (d : Due) (ds : List Due) (s : Fresh x number (d ∷ ds)) → IsNewest P x (frame_of x number d ds s.shows) × Each (IsNewest P x) s.shows.are.2
  front_newest x number d ds s = subst (Each (IsNewest P x)) s.shows.are.3 s.each

  -- ---- what stands there after it

  -- a lab that shows what the link becomes
  pub record Steps (y : Lab P) (number : ℕ) (l : Link P) : Type 0 where
    pub is : link_of P y l.queue ≡ l
    pub fresh : Fresh y (number + 1) l.queue

  to_port : (on : Bus) (v : Value) (ds : List Due) (x : Lab P) (number : ℕ) → Fresh x number (due on ToPort v ∷ ds) → let l = first_goes P setup on ToPort v ds (link_of P x (due on ToPort v ∷ ds)) in
      NoIdles P l → Steps (step P setup x (ToBmc number)) number l
  unfolding step
  to_port Ipmb v ds x number s none =
      let request = s.shows.are.0 in
      let o = opens_same P v request x in
      let y0 : Lab P = record x { opened = o.0 } in
      let d = hears setup x.ipmb x.board v in
      let y = port_does P Ipmb ToManager request d y0 in
      let unsent : Lab P = record y0 { board = d.board; ipmb = d.port } in
      let front = front_newest x number (due Ipmb ToPort v) ds s in
      let is : step P setup x (ToBmc number) ≡ y = ap (λ (f : Option LabFrame). delivered P setup f x) (found P setup x number (due Ipmb ToPort v) ds s.shows) ∙ ap (port_does P Ipmb ToManager request d) o.1 in
      subst (λ (z : Lab P). Steps z number (first_goes P setup Ipmb ToPort v ds (link_of P x (due Ipmb ToPort v ∷ ds)))) (sym is)
      (record {
        is = refl;
        fresh = record {
          shows = queue.goes_on P setup x y number (due Ipmb ToPort v) ds (map (due Ipmb ToManager) d.sent) (map (frame_now P Ipmb ToManager request unsent) d.sent) s.shows refl (frames_due P Ipmb ToManager request unsent d.sent);
          each = each_append (IsNewest P y) s.shows.are.2 (map (frame_now P Ipmb ToManager request unsent) d.sent)
              (each_imply (IsNewest P x) (IsNewest P y) s.shows.are.2 (λ f n. record { newest = n.newest; idles = n.idles }) front.1)
              (each_map (frame_now P Ipmb ToManager request unsent) (IsNewest P y) d.sent
              (each_by_place (λ (w : Value). IsNewest P y (frame_now P Ipmb ToManager request unsent w)) d.sent (λ n w at. record { newest = front.0.newest; idles = (none (own_on Ipmb x.manager.names)).0 })));
        };
      })
  to_port Smbus v ds x number s none =
      let request = s.shows.are.0 in
      let o = opens_same P v request x in
      let y0 : Lab P = record x { opened = o.0 } in
      let d = hears setup x.smbus x.board v in
      let y = port_does P Smbus ToManager request d y0 in
      let unsent : Lab P = record y0 { board = d.board; smbus = d.port } in
      let front = front_newest x number (due Smbus ToPort v) ds s in
      let is : step P setup x (ToBmc number) ≡ y = ap (λ (f : Option LabFrame). delivered P setup f x) (found P setup x number (due Smbus ToPort v) ds s.shows) ∙ ap (port_does P Smbus ToManager request d) o.1 in
      subst (λ (z : Lab P). Steps z number (first_goes P setup Smbus ToPort v ds (link_of P x (due Smbus ToPort v ∷ ds)))) (sym is)
      (record {
        is = refl;
        fresh = record {
          shows = queue.goes_on P setup x y number (due Smbus ToPort v) ds (map (due Smbus ToManager) d.sent) (map (frame_now P Smbus ToManager request unsent) d.sent) s.shows refl (frames_due P Smbus ToManager request unsent d.sent);
          each = each_append (IsNewest P y) s.shows.are.2 (map (frame_now P Smbus ToManager request unsent) d.sent)
              (each_imply (IsNewest P x) (IsNewest P y) s.shows.are.2 (λ f n. record { newest = n.newest; idles = n.idles }) front.1)
              (each_map (frame_now P Smbus ToManager request unsent) (IsNewest P y) d.sent
              (each_by_place (λ (w : Value). IsNewest P y (frame_now P Smbus ToManager request unsent w)) d.sent (λ n w at. record { newest = front.0.newest; idles = (none (own_on Smbus x.manager.names)).1 })));
        };
      })

  -- the manager sends frames of its newest request
  sent_newest : (x : Lab P) (m : ManagerState P) (t : Sent) → NoIdles P (link_of P x []) → begun_on P.words t.on m.machine ≤ t.request + 1
      → Each (IsNewest P (manager_does P (record { manager = m; sent = Some t }) x)) (map (frame_now P t.on ToPort t.request (let y : Lab P = record x { manager = m } in y)) t.values)
  sent_newest x m t none newest =
      let y : Lab P = record x { manager = m } in
      let z = manager_does P (record { manager = m; sent = Some t }) x in
      each_map (frame_now P t.on ToPort t.request y) (IsNewest P z) t.values
      (each_by_place (λ (w : Value). IsNewest P z (frame_now P t.on ToPort t.request y w)) t.values (λ n w at. record { newest = newest; idles = by t.on (own_on t.on m.names) }))
    where
      by : (on : Bus) (q : ℕ) → idles_of q (port_on P on (let y : Lab P = record x { manager = m } in y)).log ≡ 0
      by Ipmb q = (none q).0
      by Smbus q = (none q).1

  manager_went : (on : Bus) (v : Value) (ds : List Due) (x : Lab P) (number : ℕ) → Fresh x number (due on ToManager v ∷ ds) → NoIdles P (link_of P x []) → (m : ManagerState P) (o : Option Sent)
      → ((m.machine ≡ x.manager.machine) × (o ≡ None)) ⊎ ((ds ≡ []) × SendsNewest P (record { manager = m; sent = o }))
      → Steps (manager_does P (record { manager = m; sent = o }) x) number (manager_goes P (record { manager = m; sent = o }) ds (link_of P x (due on ToManager v ∷ ds)))
  manager_went on v ds x number s none m None (inl same) =
      let y : Lab P = record x { manager = m } in
      let front = front_newest x number (due on ToManager v) ds s in
      record {
        is = refl;
        fresh = record {
          shows = queue.goes_on P setup x y number (due on ToManager v) ds [] [] s.shows (sym (append_none P setup x.frames)) refl;
          each = each_append (IsNewest P y) s.shows.are.2 []
              (each_imply (IsNewest P x) (IsNewest P y) s.shows.are.2 (λ f n. record { newest = subst (λ (k : Machine P.words). begun_on P.words f.on k ≤ f.request + 1) (sym same.0) n.newest; idles = n.idles }) front.1) tt;
        };
      }
  manager_went on v ds x number s none m None (inr last) =
      let y : Lab P = record x { manager = m } in
      let empty : s.shows.are.2 ≡ [] = subst (λ (l : List Due). AreDue l s.shows.are.2) last.0 s.shows.are.4 in
      record {
        is = refl;
        fresh = record {
          shows = queue.goes_on P setup x y number (due on ToManager v) ds [] [] s.shows (sym (append_none P setup x.frames)) refl;
          each = each_append (IsNewest P y) s.shows.are.2 [] (subst (Each (IsNewest P y)) (sym empty) tt) tt;
        };
      }
  manager_went on v ds x number s none m (Some t) (inl same) = absurd (none-some t (sym same.1))
  manager_went on v ds x number s none m (Some t) (inr last) =
      let z : Lab P = record x { manager = m } in
      let y = manager_does P (record { manager = m; sent = Some t }) x in
      let fs = map (frame_now P t.on ToPort t.request z) t.values in
      let empty : s.shows.are.2 ≡ [] = subst (λ (l : List Due). AreDue l s.shows.are.2) last.0 s.shows.are.4 in
      record {
        is = refl;
        fresh = record {
          shows = queue.goes_on P setup x y number (due on ToManager v) ds (map (due t.on ToPort) t.values) fs s.shows refl (frames_due P t.on ToPort t.request z t.values);
          each = each_append (IsNewest P y) s.shows.are.2 fs (subst (Each (IsNewest P y)) (sym empty) tt) (sent_newest x m t none last.1);
        };
      }

  to_manager : (on : Bus) (v : Value) (ds : List Due) (x : Lab P) (number : ℕ) → Fresh x number (due on ToManager v ∷ ds) → NoIdles P (link_of P x []) → CalmFirst ToManager v ds (link_of P x (due on ToManager v ∷ ds))
      → Steps (step P setup x (ToMgr number)) number (first_goes P setup on ToManager v ds (link_of P x (due on ToManager v ∷ ds)))
  unfolding step
  to_manager on v ds x number s none calm =
      let d = manager_hears P v x.manager in
      let is : step P setup x (ToMgr number) ≡ manager_does P d x = ap (λ (f : Option LabFrame). returned P setup f x) (found P setup x number (due on ToManager v) ds s.shows) in
      subst (λ (z : Lab P). Steps z number (first_goes P setup on ToManager v ds (link_of P x (due on ToManager v ∷ ds)))) (sym is) (manager_went on v ds x number s none d.manager d.sent calm)

  -- the event that delivers the frame in front: it is taken
  record Front (x : Lab P) (number : ℕ) (l : Link P) : Type 0 where
    event : Event
    delivers : delivery_in number (slice_get x.frames number) ≡ Some event
    taken : fault_of P x event ≡ None
    steps : Steps (step P setup x event) number l

  front : (on : Bus) (way : Way) (v : Value) (ds : List Due) (x : Lab P) (number : ℕ) → Fresh x number (due on way v ∷ ds) → NoIdles P (link_of P x []) → number + length (due on way v ∷ ds) < most_frames
      → CalmFirst way v ds (link_of P x (due on way v ∷ ds)) → let l = first_goes P setup on way v ds (link_of P x (due on way v ∷ ds)) in NoIdles P l → Front x number l
  front on ToPort v ds x number s none small calm next =
      let d = due on ToPort v in
      let f = frame_of x number d ds s.shows in
      let at = found P setup x number d ds s.shows in
      record {
        event = ToBmc number;
        delivers = ap (delivery_in number) at;
        taken = ap (λ (o : Option LabFrame). first_of (delivery P ToPort x o)) at ∙ taken_live x f (live_now x f (front_newest x number d ds s).0 none) (has_room x number (d ∷ ds) s.shows small);
        steps = to_port on v ds x number s next;
      }
  front on ToManager v ds x number s none small calm next =
      let d = due on ToManager v in
      let f = frame_of x number d ds s.shows in
      let at = found P setup x number d ds s.shows in
      record {
        event = ToMgr number;
        delivers = ap (delivery_in number) at;
        taken = ap (λ (o : Option LabFrame). first_of (delivery P ToManager x o)) at ∙ taken_live x f (live_now x f (front_newest x number d ds s).0 none) (has_room x number (d ∷ ds) s.shows small);
        steps = to_manager on v ds x number s none calm;
      }
  front on ToOthers v ds x number s none small calm next = absurd calm

  -- ---- all frames

  -- a schedule delivers them, and each that does is taken; so many are sent then
  pub record Goes (x : Lab P) (number n : ℕ) : Type 0 where
    pub events : List Event
    pub delivers : DeliversFrom P setup number events x
    pub taken : (es : List Event) → DeliversFrom P setup number es x → AllTaken P setup es x
    pub few : (es : List Event) → DeliversFrom P setup number es x → length (run P setup es x).frames ≤ number + n

  pub goes : (n : ℕ) (x : Lab P) (number : ℕ) (ds : List Due) → Fresh x number ds → Calm n (link_of P x ds) → number + n ≤ 65530 → (settles P setup n (link_of P x ds)).queue ≡ [] → Goes x number n
  unfolding run
  goes zero x number ds s calm small empty =
      let shows = subst (Shows P setup x number) empty s.shows in
      let none = none_found P setup x number shows in
      record {
        events = [];
        delivers = none;
        taken = λ es d. no_more es d none;
        few = λ es d. none_more es d none (frames_count x number [] shows);
      }
    where
      no_more : (es : List Event) → DeliversFrom P setup number es x → slice_get x.frames number ≡ None → AllTaken P setup es x
      no_more [] d none = tt
      no_more (e ∷ es) d none = absurd (none-some e (sym (ap (delivery_in number) none) ∙ d.0))

      none_more : (es : List Event) → DeliversFrom P setup number es x → slice_get x.frames number ≡ None → length x.frames ≡ number + 0 → length (run P setup es x).frames ≤ number + 0
      none_more [] d none all = omega (arith, all)
      none_more (e ∷ es) d none all = absurd (none-some e (sym (ap (delivery_in number) none) ∙ d.0))
  goes (suc n) x number [] s calm small empty =
      let g = goes n x number [] s calm.2 (omega (arith, small)) empty in
      record { events = g.events; delivers = g.delivers; taken = g.taken; few = λ es d. let few = g.few es d in omega (arith, few) }
  goes (suc n) x number (q ∷ ds) s calm small empty =
      let l = first_goes P setup q.on q.way q.value ds (link_of P x (q ∷ ds)) in
      let next = calm_idles n l calm.2 in
      let short = calm.1.0 in
      let f : Front x number l = front q.on q.way q.value ds x number s calm.0 (omega (arith, short, small)) calm.1.1 next in
      let y = step P setup x f.event in
      let g = goes n y (number + 1) l.queue f.steps.fresh (subst (Calm n) (sym f.steps.is) calm.2) (omega (arith, small)) (subst (λ (m : Link P). (settles P setup n m).queue ≡ []) (sym f.steps.is) empty) in
      record {
        events = f.event ∷ g.events;
        delivers = (f.delivers, g.delivers);
        taken = λ es d. all_taken f.event f.delivers f.taken g.taken es d;
        few = λ es d. all_few f.event f.delivers g.few es d;
      }
    where
      all_taken : (event : Event) → delivery_in number (slice_get x.frames number) ≡ Some event → fault_of P x event ≡ None → ((es : List Event) → DeliversFrom P setup (number + 1) es (step P setup x event) → AllTaken P setup es (step P setup x event))
          → (es : List Event) → DeliversFrom P setup number es x → AllTaken P setup es x
      all_taken event at none rest [] d = tt
      all_taken event at none rest (e ∷ es) d =
          let same : event ≡ e = same_Some event e (sym at ∙ d.0) in
          subst (λ (k : Event). (fault_of P x k ≡ None) × AllTaken P setup es (step P setup x k)) same
          (none, rest es (subst (λ (k : Event). DeliversFrom P setup (number + 1) es (step P setup x k)) (sym same) d.1))

      all_few : (event : Event) → delivery_in number (slice_get x.frames number) ≡ Some event → ((es : List Event) → DeliversFrom P setup (number + 1) es (step P setup x event) → length (run P setup es (step P setup x event)).frames ≤ number + 1 + n)
          → (es : List Event) → DeliversFrom P setup number es x → length (run P setup es x).frames ≤ number + suc n
      all_few event at rest [] d = absurd (none-some event (sym (ap (delivery_in number) d) ∙ at))
      all_few event at rest (e ∷ es) d =
          let same : event ≡ e = same_Some event e (sym at ∙ d.0) in
          let few = rest es (subst (λ (k : Event). DeliversFrom P setup (number + 1) es (step P setup x k)) (sym same) d.1) in
          let there : length (run P setup es (step P setup x e)).frames ≤ number + 1 + n = subst (λ (k : Event). length (run P setup es (step P setup x k)).frames ≤ number + 1 + n) same few in
          omega (arith, there)

  -- nothing is due, and the manager is called
  pub called_fresh : (x : Lab P) (number : ℕ) → Shows P setup x number [] → NoIdles P (link_of P x []) → (m : ManagerState P) (o : Option Sent) → SendsNewest P (record { manager = m; sent = o })
      → Fresh (manager_does P (record { manager = m; sent = o }) x) number (dues_of P o)
  called_fresh x number s none m None newest = record {
    shows = record { done = s.done; waiting = s.waiting; frames = s.frames; count = s.count; are = s.are };
    each = subst (Each (IsNewest P (let y : Lab P = record x { manager = m } in y))) (sym s.are) tt;
  }
  called_fresh x number s none m (Some t) newest =
      let z : Lab P = record x { manager = m } in
      let y = manager_does P (record { manager = m; sent = Some t }) x in
      let fs = map (frame_now P t.on ToPort t.request z) t.values in
      record {
        shows = record {
          done = s.done;
          waiting = s.waiting ++ fs;
          frames = ap (λ (l : List LabFrame). l ++ fs) s.frames ∙ append_assoc s.done s.waiting fs;
          count = s.count;
          are = due_more [] (map (due t.on ToPort) t.values) s.waiting fs s.are (frames_due P t.on ToPort t.request z t.values);
        };
        each = each_append (IsNewest P y) s.waiting fs (subst (Each (IsNewest P y)) (sym s.are) tt) (sent_newest x m t none newest);
      }

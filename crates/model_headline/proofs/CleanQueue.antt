-- On a clean link the frames that weren't delivered yet stand in a queue, and all that happens is that its first is delivered.
use Rattle.std.proofs.Common.{◌≡◌, ℕ, zero, suc, ◌+◌, Bool, true, false, cond, ◌&&◌, List, [], ◌∷◌, ◌++◌, length, map, Option, Some, None, refl, sym, ◌∙◌, ap, subst, arith, append_assoc}
use Rattle.std.specs.Prelude.{slice_get, ◌==◌, if◌then◌else◌}
use Rattle.std.proofs.lemmas.Option.{none-some, same_Some}
use Rattle.two_wire.specs.declared.Bus.{Bus}
use Rattle.two_wire.specs.declared.Bus.TheVariants.{Ipmb, Smbus}
use Rattle.cfg_records.specs.declared.board_file.BoardFile.{BoardFile}
use Rattle.mctp_net.specs.Assembly.{is_ours}
use Rattle.bmc_board.specs.State.{State}
use Rattle.bmc_core.specs.Values.{Value, Asks, Tells, Part}
use Rattle.bmc_core.specs.PortSteps.{PortState, StepResult, hears}
use Rattle.model_lab.specs.ManagerSteps.{Plans, ManagerState, ManagerStepResult, Sent, manager_hears}
use Rattle.model_lab.specs.declared.way.Way.{Way}
use Rattle.model_lab.specs.declared.way.Way.TheVariants.{ToPort, ToManager, ToOthers}
use Rattle.model_lab.specs.Lab.{LabFrame, Event, ToBmc, ToMgr, Lab, frame_now, opens, port_does, delivered, returned, manager_does, step, run}
use Rattle.model_lab.specs.Clean.{delivery_in, DeliversFrom}

-- a frame that is due: where it is, to whom it goes, and what it is
pub record Due : Type 0 where
  pub on : Bus
  pub way : Way
  pub value : Value

abbrev pub due : Bus → Way → Value → Due
due on way value = record { on = on; way = way; value = value }

-- the frames are those that are due
abbrev pub AreDue : List Due → List LabFrame → Type 0
AreDue [] fs = fs ≡ []
AreDue (d ∷ ds) fs = (request : ℕ) × (idles : ℕ) × (rest : List LabFrame) × (fs ≡ record { on = d.on; way = d.way; request = request; idles = idles; value = d.value } ∷ rest) × AreDue ds rest

pub due_more : (ds es : List Due) (fs gs : List LabFrame) → AreDue ds fs → AreDue es gs → AreDue (ds ++ es) (fs ++ gs)
due_more [] es fs gs a b = subst (λ (l : List LabFrame). AreDue es (l ++ gs)) (sym a) b
due_more (d ∷ ds) es fs gs (request, idles, rest, e, a) b = (request, idles, rest ++ gs, ap (λ (l : List LabFrame). l ++ gs) e, due_more ds es rest gs a b)

at_seam : {X : Type 0} (xs : List X) (y : X) (ys : List X) → slice_get (xs ++ y ∷ ys) (length xs) ≡ Some y
at_seam [] y ys = refl
at_seam (x ∷ xs) y ys = at_seam xs y ys

past_end : {X : Type 0} (xs : List X) → slice_get (xs ++ []) (length xs) ≡ None
past_end [] = refl
past_end (x ∷ xs) = past_end xs

pub one_longer : {X : Type 0} (xs : List X) (y : X) → length (xs ++ y ∷ []) ≡ length xs + 1
one_longer [] y = refl
one_longer (x ∷ xs) y = let r = one_longer xs y in omega arith

module _ (P : Plans) where
  -- a lab without what the frames' numbers and ages are for
  pub record Link : Type 0 where
    pub board : State
    pub ipmb : PortState
    pub smbus : PortState
    pub manager : ManagerState P
    pub queue : List Due

  abbrev pub link_of : Lab P → List Due → Link
  link_of x queue = record { board = x.board; ipmb = x.ipmb; smbus = x.smbus; manager = x.manager; queue = queue }

  abbrev pub link_port : Bus → Link → PortState
  link_port Ipmb l = l.ipmb
  link_port Smbus l = l.smbus

  abbrev pub with_link_port : Bus → PortState → Link → Link
  with_link_port Ipmb port l = record l { ipmb = port }
  with_link_port Smbus port l = record l { smbus = port }

  abbrev pub dues_of : Option Sent → List Due
  dues_of None = []
  dues_of (Some s) = map (due s.on ToPort) s.values

  abbrev pub port_goes : Bus → StepResult → List Due → Link → Link
  port_goes on d rest l = with_link_port on d.port (record l { board = d.board; queue = rest ++ map (due on ToManager) d.sent })

  abbrev pub manager_goes : ManagerStepResult P → List Due → Link → Link
  manager_goes d rest l = record l { manager = d.manager; queue = rest ++ dues_of d.sent }

  pub frames_due : (on : Bus) (way : Way) (request : ℕ) (x : Lab P) (vs : List Value) → AreDue (map (due on way) vs) (map (frame_now P on way request x) vs)
  frames_due on way request x [] = refl
  frames_due on way request x (v ∷ vs) = (request, (frame_now P on way request x v).idles, map (frame_now P on way request x) vs, refl, frames_due on way request x vs)

  -- only what the tags were opened for changes as a packet comes
  pub opens_same : (v : Value) (request : ℕ) (x : Lab P) → (o : ℕ → ℕ) × (opens P v request x ≡ record x { opened = o })
  opens_same (Asks r) request x = (x.opened, refl)
  opens_same (Tells r) request x = (x.opened, refl)
  opens_same (Part p) request x = by (p.start && is_ours x.smbus.eid p)
    where
      by : (t : Bool) → (o : ℕ → ℕ) × (cond t (record x { opened = λ (tag : ℕ). if tag == p.envelope.tag then request else x.opened tag }) x ≡ record x { opened = o })
      by true = ((λ (tag : ℕ). if tag == p.envelope.tag then request else x.opened tag), refl)
      by false = (x.opened, refl)

module _ (P : Plans) (setup : BoardFile) where
  abbrev pub first_goes : Bus → Way → Value → List Due → Link P → Link P
  first_goes on ToPort v rest l = port_goes P on (hears setup (link_port P on l) l.board v) rest l
  first_goes on ToManager v rest l = manager_goes P (manager_hears P v l.manager) rest l
  first_goes on ToOthers v rest l = l

  abbrev pub next_of : List Due → Link P → Link P
  next_of [] l = l
  next_of (d ∷ ds) l = first_goes d.on d.way d.value ds l

  -- so many frames are delivered
  abbrev pub settles : ℕ → Link P → Link P
  settles zero l = l
  settles (suc n) l = settles n (next_of l.queue l)

  pub settles_more : (m n : ℕ) (l : Link P) → settles (m + n) l ≡ settles n (settles m l)
  settles_more zero n l = let same : 0 + n ≡ n = omega arith in ap (λ (k : ℕ). settles k l) same
  settles_more (suc m) n l = let same : suc m + n ≡ suc (m + n) = omega arith in ap (λ (k : ℕ). settles k l) same ∙ settles_more m n (next_of l.queue l)

  -- the lab's frames from this number on are those in the queue
  pub record Shows (x : Lab P) (number : ℕ) (queue : List Due) : Type 0 where
    pub done : List LabFrame
    pub waiting : List LabFrame
    pub frames : x.frames ≡ done ++ waiting
    pub count : length done ≡ number
    pub are : AreDue queue waiting

  -- the frame in front, and what stands there after it
  pub found : (x : Lab P) (number : ℕ) (d : Due) (ds : List Due) → (s : Shows x number (d ∷ ds)) → slice_get x.frames number ≡ Some (record { on = d.on; way = d.way; request = s.are.0; idles = s.are.1; value = d.value })
  found x number d ds s =
      let f : LabFrame = record { on = d.on; way = d.way; request = s.are.0; idles = s.are.1; value = d.value } in
      ap (λ (n : ℕ). slice_get x.frames n) (sym s.count)
      ∙ ap (λ (fs : List LabFrame). slice_get fs (length s.done)) (s.frames ∙ ap (λ (fs : List LabFrame). s.done ++ fs) s.are.3)
      ∙ at_seam s.done f s.are.2

  pub none_found : (x : Lab P) (number : ℕ) → Shows x number [] → slice_get x.frames number ≡ None
  none_found x number s =
      ap (λ (n : ℕ). slice_get x.frames n) (sym s.count)
      ∙ ap (λ (fs : List LabFrame). slice_get fs (length s.done)) (s.frames ∙ ap (λ (fs : List LabFrame). s.done ++ fs) s.are)
      ∙ past_end s.done

  -- more frames are sent, and the first was delivered
  abbrev pub goes_on : (x y : Lab P) (number : ℕ) (d : Due) (ds more : List Due) (fs : List LabFrame) → Shows x number (d ∷ ds) → y.frames ≡ x.frames ++ fs → AreDue more fs → Shows y (number + 1) (ds ++ more)
  goes_on x y number d ds more fs s e a =
      let f : LabFrame = record { on = d.on; way = d.way; request = s.are.0; idles = s.are.1; value = d.value } in
      let rest = s.are.2 in
      record {
        done = s.done ++ f ∷ [];
        waiting = rest ++ fs;
        frames = e ∙ ap (λ (l : List LabFrame). l ++ fs) (s.frames ∙ ap (λ (l : List LabFrame). s.done ++ l) s.are.3)
            ∙ append_assoc s.done (f ∷ rest) fs ∙ sym (append_assoc s.done (f ∷ []) (rest ++ fs));
        count = one_longer s.done f ∙ ap (λ (n : ℕ). n + 1) s.count;
        are = due_more ds more rest fs s.are.4 a;
      }

  -- a lab that shows what the link becomes as the first frame is delivered
  record Steps (y : Lab P) (number : ℕ) (l : Link P) : Type 0 where
    is : link_of P y l.queue ≡ l
    shows : Shows y (number + 1) l.queue

  to_port : (on : Bus) (v : Value) (ds : List Due) (x : Lab P) (number : ℕ) → Shows x number (due on ToPort v ∷ ds)
      → Steps (step P setup x (ToBmc number)) number (first_goes on ToPort v ds (link_of P x (due on ToPort v ∷ ds)))
  unfolding step
  to_port Ipmb v ds x number s =
      let request = s.are.0 in
      let o = opens_same P v request x in
      let y0 : Lab P = record x { opened = o.0 } in
      let d = hears setup x.ipmb x.board v in
      let y = port_does P Ipmb ToManager request d y0 in
      let is : step P setup x (ToBmc number) ≡ y = ap (λ (f : Option LabFrame). delivered P setup f x) (found x number (due Ipmb ToPort v) ds s) ∙ ap (port_does P Ipmb ToManager request d) o.1 in
      subst (λ (z : Lab P). Steps z number (first_goes Ipmb ToPort v ds (link_of P x (due Ipmb ToPort v ∷ ds)))) (sym is)
      (record {
        is = refl;
        shows = goes_on x y number (due Ipmb ToPort v) ds (map (due Ipmb ToManager) d.sent) _ s refl (frames_due P Ipmb ToManager request (record y0 { board = d.board; ipmb = d.port }) d.sent);
      })
  to_port Smbus v ds x number s =
      let request = s.are.0 in
      let o = opens_same P v request x in
      let y0 : Lab P = record x { opened = o.0 } in
      let d = hears setup x.smbus x.board v in
      let y = port_does P Smbus ToManager request d y0 in
      let is : step P setup x (ToBmc number) ≡ y = ap (λ (f : Option LabFrame). delivered P setup f x) (found x number (due Smbus ToPort v) ds s) ∙ ap (port_does P Smbus ToManager request d) o.1 in
      subst (λ (z : Lab P). Steps z number (first_goes Smbus ToPort v ds (link_of P x (due Smbus ToPort v ∷ ds)))) (sym is)
      (record {
        is = refl;
        shows = goes_on x y number (due Smbus ToPort v) ds (map (due Smbus ToManager) d.sent) _ s refl (frames_due P Smbus ToManager request (record y0 { board = d.board; smbus = d.port }) d.sent);
      })

  pub append_none : {X : Type 0} (xs : List X) → xs ++ [] ≡ xs
  append_none [] = refl
  append_none (x ∷ xs) = ap (λ l. x ∷ l) (append_none xs)

  manager_went : (on : Bus) (v : Value) (ds : List Due) (x : Lab P) (number : ℕ) → Shows x number (due on ToManager v ∷ ds) → (m : ManagerState P) (o : Option Sent)
      → Steps (manager_does P (record { manager = m; sent = o }) x) number (manager_goes P (record { manager = m; sent = o }) ds (link_of P x (due on ToManager v ∷ ds)))
  manager_went on v ds x number s m None =
      record { is = refl; shows = goes_on x (record x { manager = m }) number (due on ToManager v) ds [] [] s (sym (append_none x.frames)) refl }
  manager_went on v ds x number s m (Some t) =
      record { is = refl; shows = goes_on x _ number (due on ToManager v) ds (map (due t.on ToPort) t.values) _ s refl (frames_due P t.on ToPort t.request (record x { manager = m }) t.values) }

  to_manager : (on : Bus) (v : Value) (ds : List Due) (x : Lab P) (number : ℕ) → Shows x number (due on ToManager v ∷ ds)
      → Steps (step P setup x (ToMgr number)) number (first_goes on ToManager v ds (link_of P x (due on ToManager v ∷ ds)))
  unfolding step
  to_manager on v ds x number s =
      let is : step P setup x (ToMgr number) ≡ manager_does P (manager_hears P v x.manager) x = ap (λ (f : Option LabFrame). returned P setup f x) (found x number (due on ToManager v) ds s) in
      subst (λ (z : Lab P). Steps z number (first_goes on ToManager v ds (link_of P x (due on ToManager v ∷ ds)))) (sym is) (manager_went on v ds x number s (manager_hears P v x.manager).manager (manager_hears P v x.manager).sent)

  -- ---- a clean schedule

  -- a lab in which nothing is due, and which is the link
  pub record Settled (y : Lab P) (l : Link P) : Type 0 where
    pub is : link_of P y [] ≡ l
    pub number : ℕ
    pub shows : Shows y number []

  -- the first event of a clean schedule delivers the frame in front
  record Begins (n number : ℕ) (e : Event) (es : List Event) (x : Lab P) (l : Link P) : Type 0 where
    next : Lab P
    is : step P setup x e ≡ next
    steps : Steps next number l

  begins : (n : ℕ) (e : Event) (es : List Event) (x : Lab P) (number : ℕ) (on : Bus) (way : Way) (v : Value) (ds : List Due) → Shows x number (due on way v ∷ ds)
      → delivery_in number (slice_get x.frames number) ≡ Some e → Begins n number e es x (first_goes on way v ds (link_of P x (due on way v ∷ ds)))
  begins n e es x number on ToPort v ds s is =
      let it : ToBmc number ≡ e = same_Some _ _ (sym (ap (delivery_in number) (found x number (due on ToPort v) ds s)) ∙ is) in
      record { next = step P setup x (ToBmc number); is = ap (step P setup x) (sym it); steps = to_port on v ds x number s }
  begins n e es x number on ToManager v ds s is =
      let it : ToMgr number ≡ e = same_Some _ _ (sym (ap (delivery_in number) (found x number (due on ToManager v) ds s)) ∙ is) in
      record { next = step P setup x (ToMgr number); is = ap (step P setup x) (sym it); steps = to_manager on v ds x number s }
  begins n e es x number on ToOthers v ds s is = absurd (none-some e (sym (ap (delivery_in number) (found x number (due on ToOthers v) ds s)) ∙ is))

  -- where the queue is empty after so many deliveries, a clean schedule leads there
  pub settled : (n : ℕ) (es : List Event) (x : Lab P) (number : ℕ) (queue : List Due) → Shows x number queue → DeliversFrom P setup number es x
      → (settles n (link_of P x queue)).queue ≡ [] → Settled (run P setup es x) (settles n (link_of P x queue))
  unfolding run
  settled zero [] x number queue s d empty =
      subst (λ (q : List Due). Settled x (link_of P x q)) (sym empty) (record { is = refl; number = number; shows = subst (Shows x number) empty s })
  settled zero (e ∷ es) x number queue s d empty =
      let none = none_found x number (subst (Shows x number) empty s) in
      absurd (none-some e (sym (ap (delivery_in number) none) ∙ d.0))
  settled (suc n) es x number [] s d empty = settled n es x number [] s d empty
  settled (suc n) [] x number (q ∷ ds) s d empty = absurd (none-some _ (sym d ∙ found x number q ds s))
  settled (suc n) (e ∷ es) x number (q ∷ ds) s d empty =
      let b = begins n e es x number q.on q.way q.value ds s d.0 in
      let l = first_goes q.on q.way q.value ds (link_of P x (q ∷ ds)) in
      let more : DeliversFrom P setup (number + 1) es b.next = subst (DeliversFrom P setup (number + 1) es) b.is d.1 in
      let rest = settled n es b.next (number + 1) l.queue b.steps.shows more (subst (λ (m : Link P). (settles n m).queue ≡ []) (sym b.steps.is) empty) in
      subst (λ (y : Lab P). Settled (run P setup es y) (settles n l)) (sym b.is) (subst (λ (m : Link P). Settled (run P setup es b.next) (settles n m)) b.steps.is rest)

  -- nothing is due, and the manager is called
  pub called_goes : (x : Lab P) (number : ℕ) → Shows x number [] → (m : ManagerState P) (o : Option Sent)
      → Shows (manager_does P (record { manager = m; sent = o }) x) number (dues_of P o) × (link_of P (manager_does P (record { manager = m; sent = o }) x) (dues_of P o) ≡ record (link_of P x (dues_of P o)) { manager = m })
  called_goes x number s m None = (record { done = s.done; waiting = s.waiting; frames = s.frames; count = s.count; are = s.are }, refl)
  called_goes x number s m (Some t) =
      let y : Lab P = record x { manager = m } in
      let fs = map (frame_now P t.on ToPort t.request y) t.values in (
        record {
          done = s.done;
          waiting = s.waiting ++ fs;
          frames = ap (λ (l : List LabFrame). l ++ fs) s.frames ∙ append_assoc s.done s.waiting fs;
          count = s.count;
          are = due_more [] (map (due t.on ToPort) t.values) s.waiting fs s.are (frames_due P t.on ToPort t.request y t.values);
        },
        refl,
      )

  -- where nothing is due, the next number is how many frames were sent
  pub all_sent : (x : Lab P) (number : ℕ) → Shows x number [] → number ≡ length x.frames
  all_sent x number s = sym s.count ∙ sym (ap (λ (l : List LabFrame). length l) (s.frames ∙ ap (λ (l : List LabFrame). s.done ++ l) s.are ∙ append_none s.done))

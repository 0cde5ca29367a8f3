-- On a clean link the packets of a message come one after another, and what comes of them is what comes of the message.
use Rattle.std.proofs.Common.{◌≡◌, ℕ, ◌+◌, ◌-◌, ◌<◌, ◌≤◌, Bool, true, cond, ◌||◌, List, [], ◌∷◌, ◌++◌, length, map, Option, Some, None, refl, sym, ◌∙◌, ap, subst, arith, inl, inr}
use Rattle.std.specs.List.{All}
use Rattle.std.specs.Prelude.{◌==◌}
use Rattle.std.proofs.lemmas.Bool.{eq-eqb}
use Rattle.std.proofs.lemmas.List.{length-map}
use Rattle.std.proofs.lemmas.List.Elements.{All-nil, All-cons, All-head, All-tail}
use Rattle.two_wire.specs.declared.Bus.TheVariants.{Smbus}
use Rattle.mctp_net.specs.declared.packet.Name.{Name}
use Rattle.mctp_net.specs.declared.packet.Packet.{Packet}
use Rattle.mctp_net.specs.declared.packet.Envelope.{Envelope}
use Rattle.mctp_net.specs.declared.message.Message.{Message}
use Rattle.mctp_net.specs.declared.taken.DropCause.{DropCause}
use Rattle.mctp_net.specs.Grammar.{bit}
use Rattle.mctp_net.specs.Cut.{Piece, piece}
use Rattle.mctp_net.specs.Assembly.{Assemblies, name_of, is_open, joined_to, open_beside, is_ours, with_under, drop_cause, after, after_where, ended, kept_with, message_of, ComesBack, MakesWhole, IsPieceTaken}
use Rattle.mctp_net.proofs.Names.{name-self}
use Rattle.mctp_net.proofs.ComingBack.{cut-comes_back}
use Rattle.mctp_net.proofs.Wholes.{whole-passes, whole-fits, whole-one}
use Rattle.cfg_records.specs.declared.board_file.BoardFile.{BoardFile}
use Rattle.bmc_board.specs.State.{State}
use Rattle.model_undo.specs.Machine.{Part as TaskPart}
use Rattle.bmc_core.specs.Values.{Part, parts_of}
use Rattle.bmc_core.specs.Cuts.{kept_after_parts}
use Rattle.bmc_core.specs.PortSteps.{PortState, StepResult, hears, hears_part, hears_message, ends_message, stays}
use Rattle.model_lab.specs.ManagerSteps.{Plans, ManagerState, ManagerStepResult, heeded_on, open_count, is_part, rests, hears_reply, ends_reply, joins, joins_for, hears_packet}
use Rattle.model_lab.specs.declared.way.Way.TheVariants.{ToPort, ToManager}
use Rattle.bmc_core.proofs.Parts.{parts_are_cuts}
use Rattle.model_headline.proofs.CleanQueue.{Due, due, Link, port_goes, manager_goes, settles}
use Rattle.model_headline.proofs.CleanFresh.{NoIdles, SendsNewest, Calm}

-- ---- what is kept after them

-- the packets have the envelope
abbrev pub AreIn : Envelope → List Packet → Type 0
AreIn e ps = All (λ p. p.envelope ≡ e) ps

-- as many assemblies of other names are open as were
beside_same : (n : Name) (ps : List Piece) (a : Assemblies) → open_beside n (with_under n ps a) ≡ open_beside n a
beside_same n ps a =
    ap (λ (t : Bool). open_beside n a + bit (is_open ps) - bit (is_open (cond t ps (a.under n)))) (name-self n) ∙ back (open_beside n a) (bit (is_open ps))
  where
    back : (x y : ℕ) → x + y - y ≡ x
    back x y = omega arith

taken_is : (own : ℕ) (a : Assemblies) (p : Packet) → IsPieceTaken own a p → after own a p ≡ kept_with p a
taken_is own a p h = ap (λ (c : Option DropCause). after_where c p a) h.kept_on ∙ ap (λ (t : Bool). cond t (ended p a) (kept_with p a)) h.more

whole_is : (own : ℕ) (a : Assemblies) (p : Packet) (m : Message) → MakesWhole own a p m → after own a p ≡ ended p a
whole_is own a p m h =
    ap (λ (c : Option DropCause). after_where c p a) (whole-passes own a p m h) ∙ ap (λ (t : Bool). cond t (ended p a) (kept_with p a)) (whole-fits own a p m h).1

-- after the last no assembly is open, where none of another name was
pub closes : (own : ℕ) (ps : List Packet) (a : Assemblies) (m : Message) → ComesBack own a ps m → AreIn m.envelope ps → open_beside (name_of m.envelope) a ≡ 0 → (kept_after_parts own a ps).open_count ≡ 0
closes own [] a m h same none = absurd h
closes own (p ∷ []) a m h same none =
    let mine : p.envelope ≡ m.envelope = All-head (λ q. q.envelope ≡ m.envelope) p [] same in
    ap (λ (b : Assemblies). b.open_count) (whole_is own a p m h)
    ∙ ap (λ (e : Envelope). open_beside (name_of e) a + bit (is_open [])) mine
    ∙ ap (λ (n : ℕ). n + 0) none
closes own (p ∷ q ∷ rest) a m h same none =
    let mine : p.envelope ≡ m.envelope = All-head (λ x. x.envelope ≡ m.envelope) p (q ∷ rest) same in
    let next : open_beside (name_of m.envelope) (after own a p) ≡ 0 =
    ap (λ (b : Assemblies). open_beside (name_of m.envelope) b) (taken_is own a p h.0)
    ∙ ap (λ (e : Envelope). open_beside (name_of e) (kept_with p a)) (sym mine)
    ∙ beside_same (name_of p.envelope) (joined_to p a ++ piece p ∷ []) a
    ∙ ap (λ (e : Envelope). open_beside (name_of e) a) mine ∙ none in
    closes own (q ∷ rest) (after own a p) m h.1 (All-tail (λ x. x.envelope ≡ m.envelope) p (q ∷ rest) same) next

-- the packets of a message come back, where none is open
pub come_back : (own : ℕ) (a : Assemblies) (m : Message) → 0 < length m.body → length m.body ≤ 256 → m.envelope.destination_eid ≡ own → a.open_count ≡ 0 → ComesBack own a (parts_of m) m
come_back own a m some fits mine none =
    let cut = parts_are_cuts.cut m some fits in
    cut-comes_back own a m (parts_of m) cut (all_ours (parts_of m) cut.enveloped) (λ more. below (bit (is_open (a.under (name_of m.envelope)))))
  where
    all_ours : (ps : List Packet) → AreIn m.envelope ps → All (λ p. is_ours own p ≡ true) ps
    all_ours [] same = All-nil (λ p. is_ours own p ≡ true)
    all_ours (p ∷ ps) same =
        let there : p.envelope ≡ m.envelope = All-head (λ q. q.envelope ≡ m.envelope) p ps same in
        let is : (p.envelope.destination_eid == own) ≡ true = eq-eqb _ _ (ap (λ (e : Envelope). e.destination_eid) there ∙ mine) in
        All-cons (λ q. is_ours own q ≡ true) p ps (ap (λ (t : Bool). t || (p.envelope.destination_eid == 0)) is) (all_ours ps (All-tail (λ q. q.envelope ≡ m.envelope) p ps same))

    below : (x : ℕ) → a.open_count - x < 8
    below x = omega (arith, none)

-- nothing is open beside any name, where nothing is open
pub none_beside : (a : Assemblies) (n : Name) → a.open_count ≡ 0 → open_beside n a ≡ 0
none_beside a n none = by (bit (is_open (a.under n)))
  where
    by : (x : ℕ) → a.open_count - x ≡ 0
    by x = omega (arith, none)

-- ---- at the port

abbrev pub dues_at : List Packet → List Due
dues_at ps = map (due Smbus ToPort) (map Part ps)

abbrev pub dues_back : List Packet → List Due
dues_back ps = map (due Smbus ToManager) (map Part ps)

module _ (P : Plans) (setup : BoardFile) where
  abbrev with_kept : PortState → Assemblies → PortState
  with_kept port kept = record port { kept = kept }

  part_taken : (port : PortState) (before : State) (p : Packet) → drop_cause port.eid port.kept p ≡ None
      → hears_part setup port before p ≡ ends_message setup (with_kept port (after port.eid port.kept p)) before p None
  unfolding hears_part
  part_taken port before p none = ap (ends_message setup (with_kept port (after port.eid port.kept p)) before p) none

  waits : (port : PortState) (before : State) (p : Packet) → IsPieceTaken port.eid port.kept p → hears_part setup port before p ≡ stays (with_kept port (after port.eid port.kept p)) before
  waits port before p taken =
      let next = with_kept port (after port.eid port.kept p) in
      part_taken port before p taken.kept_on ∙ ap (λ (t : Bool). cond t (hears_message setup next before (message_of next.kept p)) (stays next before)) taken.more

  gives : (port : PortState) (before : State) (p : Packet) (m : Message) → MakesWhole port.eid port.kept p m
      → hears_part setup port before p ≡ hears_message setup (with_kept port (after port.eid port.kept p)) before m
  gives port before p m h =
      let next = with_kept port (after port.eid port.kept p) in
      let made : message_of next.kept p ≡ m = ap (λ (a : Assemblies). message_of a p) (whole_is port.eid port.kept p m h) ∙ sym (whole-one port.eid port.kept p m h) in
      part_taken port before p (whole-passes port.eid port.kept p m h)
      ∙ ap (λ (t : Bool). cond t (hears_message setup next before (message_of next.kept p)) (stays next before)) (whole-fits port.eid port.kept p m h).1
      ∙ ap (hears_message setup next before) made

  there : (port : PortState) (before : State) (p : Packet) → p.envelope.destination ≡ port.wire → hears setup port before (Part p) ≡ hears_part setup port before p
  there port before p is = ap (λ (t : Bool). cond t (hears_part setup port before p) (stays port before)) (eq-eqb _ _ is)

  abbrev left : PortState → List Packet → PortState
  left port ps = with_kept port (kept_after_parts port.eid port.kept ps)

  no_more : (ds : List Due) → ds ++ [] ≡ ds
  no_more [] = refl
  no_more (d ∷ ds) = ap (λ (x : List Due). d ∷ x) (no_more ds)

  -- packets that make a message whole are delivered to the port
  pub port_hears : (ps : List Packet) (l : Link P) (m : Message) → ComesBack l.smbus.eid l.smbus.kept ps m → AreIn m.envelope ps → m.envelope.destination ≡ l.smbus.wire
      → settles P setup (length ps) (record l { queue = dues_at ps }) ≡ port_goes P Smbus (hears_message setup (left l.smbus ps) l.board m) [] l
  port_hears [] l m h same is = absurd h
  port_hears (p ∷ []) l m h same is =
      let mine : p.envelope ≡ m.envelope = All-head (λ q. q.envelope ≡ m.envelope) p [] same in
      ap (λ (d : StepResult). port_goes P Smbus d [] l) (there l.smbus l.board p (ap (λ (e : Envelope). e.destination) mine ∙ is) ∙ gives l.smbus l.board p m h)
  port_hears (p ∷ q ∷ rest) l m h same is =
      let mine : p.envelope ≡ m.envelope = All-head (λ x. x.envelope ≡ m.envelope) p (q ∷ rest) same in
      let next : Link P = record l { smbus = with_kept l.smbus (after l.smbus.eid l.smbus.kept p) } in
      ap (λ (d : StepResult). settles P setup (length (q ∷ rest)) (port_goes P Smbus d (dues_at (q ∷ rest)) l)) (there l.smbus l.board p (ap (λ (e : Envelope). e.destination) mine ∙ is) ∙ waits l.smbus l.board p h.0)
      ∙ ap (λ (ds : List Due). settles P setup (length (q ∷ rest)) (record next { queue = ds })) (no_more (dues_at (q ∷ rest)))
      ∙ port_hears (q ∷ rest) next m h.1 (All-tail (λ x. x.envelope ≡ m.envelope) p (q ∷ rest) same) is

  -- and each of them while the request is the newest
  pub port_calm : (ps : List Packet) (l : Link P) (m : Message) → ComesBack l.smbus.eid l.smbus.kept ps m → AreIn m.envelope ps → m.envelope.destination ≡ l.smbus.wire → length ps ≤ 4
      → NoIdles P l → NoIdles P (port_goes P Smbus (hears_message setup (left l.smbus ps) l.board m) [] l) → Calm P setup (length ps) (record l { queue = dues_at ps })
  port_calm [] l m h same is few none ends = absurd h
  port_calm (p ∷ []) l m h same is few none ends =
      let mine : p.envelope ≡ m.envelope = All-head (λ q. q.envelope ≡ m.envelope) p [] same in
      let heard = there l.smbus l.board p (ap (λ (e : Envelope). e.destination) mine ∙ is) ∙ gives l.smbus l.board p m h in
      (none, (omega arith, tt), subst (λ (d : StepResult). NoIdles P (port_goes P Smbus d [] l)) (sym heard) ends)
  port_calm (p ∷ q ∷ rest) l m h same is few none ends =
      let mine : p.envelope ≡ m.envelope = All-head (λ x. x.envelope ≡ m.envelope) p (q ∷ rest) same in
      let next : Link P = record l { smbus = with_kept l.smbus (after l.smbus.eid l.smbus.kept p) } in
      let heard = there l.smbus l.board p (ap (λ (e : Envelope). e.destination) mine ∙ is) ∙ waits l.smbus l.board p h.0 in
      let more : Calm P setup (length (q ∷ rest)) (record next { queue = dues_at (q ∷ rest) }) = port_calm (q ∷ rest) next m h.1 (All-tail (λ x. x.envelope ≡ m.envelope) p (q ∷ rest) same) is (omega (arith, few)) none ends in (
        none,
        (shorter q rest few, tt),
        subst (λ (d : StepResult). Calm P setup (length (q ∷ rest)) (port_goes P Smbus d (dues_at (q ∷ rest)) l)) (sym heard)
            (subst (λ (ds : List Due). Calm P setup (length (q ∷ rest)) (record next { queue = ds })) (sym (no_more (dues_at (q ∷ rest)))) more),
      )
    where
      shorter : (q : Packet) (rest : List Packet) → length (p ∷ q ∷ rest) ≤ 4 → length (dues_at (q ∷ rest)) ≤ 4
      shorter q rest few = let same = length-map (map Part (q ∷ rest)) (due Smbus ToPort) in let also = length-map (q ∷ rest) Part in omega arith

  -- ---- at the manager

  abbrev with_joined : ManagerState P → Assemblies → ManagerState P
  with_joined m joined = record m { joined = joined }

  joins_on : (m : ManagerState P) (p : Packet) (part : TaskPart P.words) → heeded_on P Smbus m.machine.stage ≡ Some part → is_part m.names (open_count P Smbus m) p ≡ true → drop_cause m.names.own_eid m.joined p ≡ None
      → hears_packet P p m ≡ ends_reply P p None (with_joined m (after m.names.own_eid m.joined p))
  unfolding hears_packet
  joins_on m p part heeded mine none =
      ap (joins_for P p m) heeded
      ∙ ap (λ (t : Bool). cond t (joins P p m) (rests P m)) mine
      ∙ ap (λ (c : Option DropCause). ends_reply P p c (with_joined m (after m.names.own_eid m.joined p))) none

  -- packets that make a reply whole are delivered to the manager
  pub manager_joins : (ps : List Packet) (l : Link P) (m : Message) (part : TaskPart P.words) → heeded_on P Smbus l.manager.machine.stage ≡ Some part → ComesBack l.manager.names.own_eid l.manager.joined ps m → AreIn m.envelope ps
      → ((p : Packet) → p.envelope ≡ m.envelope → is_part l.manager.names (open_count P Smbus l.manager) p ≡ true)
      → settles P setup (length ps) (record l { queue = dues_back ps })
      ≡ manager_goes P (hears_reply P Smbus m.body (with_joined l.manager (kept_after_parts l.manager.names.own_eid l.manager.joined ps))) [] l
  manager_joins [] l m part heeded h same mine = absurd h
  manager_joins (p ∷ []) l m part heeded h same mine =
      let in_it : p.envelope ≡ m.envelope = All-head (λ q. q.envelope ≡ m.envelope) p [] same in
      let own = l.manager.names.own_eid in
      let kept = l.manager.joined in
      let next = with_joined l.manager (after own kept p) in
      let made : message_of next.joined p ≡ m = ap (λ (a : Assemblies). message_of a p) (whole_is own kept p m h) ∙ sym (whole-one own kept p m h) in
      ap (λ (d : ManagerStepResult P). manager_goes P d [] l)
      (joins_on l.manager p part heeded (mine p in_it) (whole-passes own kept p m h)
      ∙ ap (λ (t : Bool). cond t (hears_reply P Smbus (message_of next.joined p).body next) (rests P next)) (whole-fits own kept p m h).1
      ∙ ap (λ (x : Message). hears_reply P Smbus x.body next) made)
  manager_joins (p ∷ q ∷ rest) l m part heeded h same mine =
      let in_it : p.envelope ≡ m.envelope = All-head (λ x. x.envelope ≡ m.envelope) p (q ∷ rest) same in
      let own = l.manager.names.own_eid in
      let kept = l.manager.joined in
      let next = with_joined l.manager (after own kept p) in
      let on : Link P = record l { manager = next } in
      ap (λ (d : ManagerStepResult P). settles P setup (length (q ∷ rest)) (manager_goes P d (dues_back (q ∷ rest)) l))
      (joins_on l.manager p part heeded (mine p in_it) h.0.kept_on ∙ ap (λ (t : Bool). cond t (hears_reply P Smbus (message_of next.joined p).body next) (rests P next)) h.0.more)
      ∙ ap (λ (ds : List Due). settles P setup (length (q ∷ rest)) (record on { queue = ds })) (no_more (dues_back (q ∷ rest)))
      ∙ manager_joins (q ∷ rest) on m part heeded h.1 (All-tail (λ x. x.envelope ≡ m.envelope) p (q ∷ rest) same) mine

  -- and each but the last leaves its machine as it was
  pub manager_calm : (ps : List Packet) (l : Link P) (m : Message) (part : TaskPart P.words) → heeded_on P Smbus l.manager.machine.stage ≡ Some part → ComesBack l.manager.names.own_eid l.manager.joined ps m → AreIn m.envelope ps
      → ((p : Packet) → p.envelope ≡ m.envelope → is_part l.manager.names (open_count P Smbus l.manager) p ≡ true) → length ps ≤ 4
      → NoIdles P l → SendsNewest P (hears_reply P Smbus m.body (with_joined l.manager (kept_after_parts l.manager.names.own_eid l.manager.joined ps))) → Calm P setup (length ps) (record l { queue = dues_back ps })
  manager_calm [] l m part heeded h same mine few none newest = absurd h
  manager_calm (p ∷ []) l m part heeded h same mine few none newest =
      let in_it : p.envelope ≡ m.envelope = All-head (λ q. q.envelope ≡ m.envelope) p [] same in
      let own = l.manager.names.own_eid in
      let kept = l.manager.joined in
      let next = with_joined l.manager (after own kept p) in
      let made : message_of next.joined p ≡ m = ap (λ (a : Assemblies). message_of a p) (whole_is own kept p m h) ∙ sym (whole-one own kept p m h) in
      let heard : hears_packet P p l.manager ≡ hears_reply P Smbus m.body next =
      joins_on l.manager p part heeded (mine p in_it) (whole-passes own kept p m h)
      ∙ ap (λ (t : Bool). cond t (hears_reply P Smbus (message_of next.joined p).body next) (rests P next)) (whole-fits own kept p m h).1
      ∙ ap (λ (x : Message). hears_reply P Smbus x.body next) made in
      (none, (omega arith, inr (refl, subst (SendsNewest P) (sym heard) newest)), none)
  manager_calm (p ∷ q ∷ rest) l m part heeded h same mine few none newest =
      let in_it : p.envelope ≡ m.envelope = All-head (λ x. x.envelope ≡ m.envelope) p (q ∷ rest) same in
      let own = l.manager.names.own_eid in
      let kept = l.manager.joined in
      let next = with_joined l.manager (after own kept p) in
      let on : Link P = record l { manager = next } in
      let heard : hears_packet P p l.manager ≡ rests P next =
      joins_on l.manager p part heeded (mine p in_it) h.0.kept_on ∙ ap (λ (t : Bool). cond t (hears_reply P Smbus (message_of next.joined p).body next) (rests P next)) h.0.more in
      let more : Calm P setup (length (q ∷ rest)) (record on { queue = dues_back (q ∷ rest) }) = manager_calm (q ∷ rest) on m part heeded h.1 (All-tail (λ x. x.envelope ≡ m.envelope) p (q ∷ rest) same) mine (omega (arith, few)) none newest in (
        none,
        (shorter q rest few, inl (ap (λ (d : ManagerStepResult P). d.manager.machine) heard, ap (λ (d : ManagerStepResult P). d.sent) heard)),
        subst (λ (d : ManagerStepResult P). Calm P setup (length (q ∷ rest)) (manager_goes P d (dues_back (q ∷ rest)) l)) (sym heard)
            (subst (λ (ds : List Due). Calm P setup (length (q ∷ rest)) (record on { queue = ds })) (sym (no_more (dues_back (q ∷ rest)))) more),
      )
    where
      shorter : (q : Packet) (rest : List Packet) → length (p ∷ q ∷ rest) ≤ 4 → length (dues_back (q ∷ rest)) ≤ 4
      shorter q rest few = let same = length-map (map Part (q ∷ rest)) (due Smbus ToManager) in let also = length-map (q ∷ rest) Part in omega arith

-- The packets of a message, and what a port does with them.
use Rattle.std.proofs.Common.{◌≡◌, ℕ, ◌+◌, ◌<◌, ◌≤◌, Bool, true, false, cond, arith, ◌||◌, ◌&&◌, List, [], ◌∷◌, ◌++◌, length, map, Option, Some, None, refl, sym, ◌∙◌, ap, subst}
use Rattle.std.specs.List.{All}
use Rattle.std.specs.Prelude.{◌==◌, nat_le, nat_lt}
use Rattle.std.proofs.lemmas.Bool.{leb-true, ltb-true}
use Rattle.std.proofs.lemmas.Bool.Decides.{nat_tests}
use Rattle.std.proofs.lemmas.List.Elements.{All-nil, All-cons, All-head, All-tail}
use Rattle.mctp_net.specs.declared.packet.Name.{Name}
use Rattle.mctp_net.specs.declared.taken.DropCause.TheVariants.{NotOurs, NoStart, NoSlot}
use Rattle.mctp_net.specs.declared.packet.Packet.{Packet}
use Rattle.mctp_net.specs.declared.message.Message.{Message}
use Rattle.mctp_net.specs.declared.taken.DropCause.{DropCause}
use Rattle.mctp_net.specs.Cut.{piece, IsPiece, EachFrom, IsCutOf}
use Rattle.mctp_net.proofs.NamesAlone.{own-name}
use Rattle.mctp_net.specs.Assembly.{Assemblies, name_of, taken_under, open_beside, is_ours, named_where, drop_cause, after, after_where, ended, kept_with, message_of, ComesBack, MakesWhole, IsPieceTaken}
use Rattle.mctp_net.specs.Pieces.{pieces_of, count_of}
use Rattle.mctp_net.proofs.Cuts.{is_cut}
use Rattle.mctp_net.proofs.ComingBack.{cut-comes_back}
use Rattle.mctp_net.proofs.Wholes.{whole-passes, whole-fits, whole-one}
use Rattle.cfg_records.specs.declared.board_file.BoardFile.{BoardFile}
use Rattle.bmc_board.specs.State.{State}
use Rattle.model_bus.specs.Packet.{Packet as ModelPacket, packets_of}
use Rattle.bmc_core.specs.Seen.{seen}
use Rattle.bmc_core.proofs.Cutting.{packets-agree}
use Rattle.bmc_core.specs.Values.{Value, parts_of}
use Rattle.bmc_core.specs.PortSteps.{PortState, StepResult, stays, hears_message, hears_part, hears_parts, ends_message}
use Rattle.bmc_core.specs.Cuts.{PartsAreCuts, kept_after_parts, kept_with_parts, is_for, has_slot, PartsAreHeard}

-- ---- cuts

abbrev in_envelope : Message → ModelPacket → Packet
in_envelope m q = record { envelope = m.envelope; start = q.first; end = q.last; sequence = q.sequence; payload = q.payload }

parts_seen : (m : Message) (qs : List ModelPacket) → map (λ (p : Packet). seen (piece p)) (map (in_envelope m) qs) ≡ qs
parts_seen m [] = refl
parts_seen m (q ∷ qs) = ap (λ (rest : List ModelPacket). q ∷ rest) (parts_seen m qs)

parts_back : (m : Message) (ps : List Packet) → All (λ p. p.envelope ≡ m.envelope) ps → map (in_envelope m) (map (λ (p : Packet). seen (piece p)) ps) ≡ ps
parts_back m [] same = refl
parts_back m (p ∷ ps) same =
    let head : m.envelope ≡ p.envelope = sym (All-head (λ x. x.envelope ≡ m.envelope) p ps same) in
    (λ i. record { envelope = head i; start = p.start; end = p.end; sequence = p.sequence; payload = p.payload } ∷ map (in_envelope m) (map (λ (p : Packet). seen (piece p)) ps))
    ∙ ap (λ (rest : List Packet). p ∷ rest) (parts_back m ps (All-tail (λ x. x.envelope ≡ m.envelope) p ps same))

cut : (m : Message) → 0 < length m.body → length m.body ≤ 256 → IsCutOf m (parts_of m)
cut m some fits =
    let ps = pieces_of m (count_of m) in
    let made : IsCutOf m ps = is_cut m (count_of m) refl some fits in
    let same : ps ≡ parts_of m = sym (parts_back m ps made.enveloped) ∙ ap (map (in_envelope m)) (packets-agree m ps made) in
    subst (IsCutOf m) same made

pub parts_are_cuts : PartsAreCuts
parts_are_cuts = record { cut = cut; seen_so = λ m. parts_seen m (packets_of m.body) }

-- ---- a message whose packets come one after another

module _ (setup : BoardFile) (before : State) where
  abbrev with_kept : PortState → Assemblies → PortState
  with_kept port kept = record port { kept = kept }

  no_more : (sent : List Value) → sent ++ [] ≡ sent
  no_more [] = refl
  no_more (v ∷ vs) = ap (λ (x : List Value). v ∷ x) (no_more vs)

  -- one packet that isn't dropped
  part_taken : (port : PortState) (p : Packet) → drop_cause port.eid port.kept p ≡ None
      → hears_part setup port before p ≡ ends_message setup (with_kept port (after port.eid port.kept p)) before p None
  unfolding hears_part
  part_taken port p none = ap (ends_message setup (with_kept port (after port.eid port.kept p)) before p) none

  abbrev then_parts : List Packet → StepResult → StepResult
  then_parts ps first = let rest = hears_parts setup first.port first.board ps in record { port = rest.port; board = rest.board; sent = first.sent ++ rest.sent }

  parts_step : (port : PortState) (p : Packet) (ps : List Packet) → hears_parts setup port before (p ∷ ps) ≡ then_parts ps (hears_part setup port before p)
  unfolding hears_parts
  parts_step port p ps = refl

  parts_none : (port : PortState) (board : State) → hears_parts setup port board [] ≡ stays port board
  unfolding hears_parts
  parts_none port board = refl

  -- a packet that waits is no end
  waits : (port : PortState) (p : Packet) → IsPieceTaken port.eid port.kept p → hears_part setup port before p ≡ stays (with_kept port (after port.eid port.kept p)) before
  waits port p taken =
      let next = with_kept port (after port.eid port.kept p) in
      part_taken port p taken.kept_on ∙ ap (λ (t : Bool). cond t (hears_message setup next before (message_of next.kept p)) (stays next before)) taken.more

  -- one that makes the message whole gives it
  gives : (port : PortState) (p : Packet) (m : Message) → MakesWhole port.eid port.kept p m
      → hears_part setup port before p ≡ hears_message setup (with_kept port (after port.eid port.kept p)) before m
  gives port p m h =
      let next = with_kept port (after port.eid port.kept p) in
      let none = whole-passes port.eid port.kept p m h in
      let ends : p.end ≡ true = (whole-fits port.eid port.kept p m h).1 in
      let kept_is : after port.eid port.kept p ≡ ended p port.kept = ap (λ (c : Option DropCause). after_where c p port.kept) none ∙ ap (λ (t : Bool). cond t (ended p port.kept) (kept_with p port.kept)) ends in
      let made : message_of next.kept p ≡ m = ap (λ (a : Assemblies). message_of a p) kept_is ∙ sym (whole-one port.eid port.kept p m h) in
      part_taken port p none
      ∙ ap (λ (t : Bool). cond t (hears_message setup next before (message_of next.kept p)) (stays next before)) ends
      ∙ ap (hears_message setup next before) made

  alone : (d : StepResult) → then_parts [] d ≡ d
  alone d =
      ap (λ (rest : StepResult). let all : StepResult = record { port = rest.port; board = rest.board; sent = d.sent ++ rest.sent } in all) (parts_none d.port d.board)
      ∙ (λ i. record { port = d.port; board = d.board; sent = no_more d.sent i })

  -- after a packet of which nothing comes
  goes_on : (port : PortState) (p : Packet) (ps : List Packet) → hears_part setup port before p ≡ stays (with_kept port (after port.eid port.kept p)) before
      → hears_parts setup port before (p ∷ ps) ≡ hears_parts setup (with_kept port (after port.eid port.kept p)) before ps
  goes_on port p ps e = parts_step port p ps ∙ ap (then_parts ps) e

  -- a packet that is dropped
  dropped : (port : PortState) (p : Packet) (cause : DropCause) → drop_cause port.eid port.kept p ≡ Some cause → hears_part setup port before p ≡ stays (with_kept port (after port.eid port.kept p)) before
  unfolding hears_part
  dropped port p cause e = ap (ends_message setup (with_kept port (after port.eid port.kept p)) before p) e

  abbrev left : PortState → List Packet → PortState
  left port ps = with_kept port (kept_after_parts port.eid port.kept ps)

  -- packets that come back are heard as their message
  heard : (port : PortState) (ps : List Packet) (m : Message) → ComesBack port.eid port.kept ps m → hears_parts setup port before ps ≡ hears_message setup (left port ps) before m
  heard port [] m h = absurd h
  heard port (p ∷ []) m h =
      parts_step port p [] ∙ ap (then_parts []) (gives port p m h) ∙ alone (hears_message setup (with_kept port (after port.eid port.kept p)) before m)
  heard port (p ∷ q ∷ rest) m h =
      goes_on port p (q ∷ rest) (waits port p h.0) ∙ heard (with_kept port (after port.eid port.kept p)) (q ∷ rest) m h.1

  -- packets that are another endpoint's
  not_ours : (port : PortState) (ps : List Packet) → All (λ p. is_ours port.eid p ≡ false) ps → hears_parts setup port before ps ≡ stays (left port ps) before
  not_ours port [] other = parts_none port before
  not_ours port (p ∷ ps) other =
      let here : is_ours port.eid p ≡ false = All-head (λ q. is_ours port.eid q ≡ false) p ps other in
      let cause : drop_cause port.eid port.kept p ≡ Some NotOurs = rw here refl in
      goes_on port p ps (dropped port p NotOurs cause) ∙ not_ours (with_kept port (after port.eid port.kept p)) ps (All-tail (λ q. is_ours port.eid q ≡ false) p ps other)

  -- packets of one name that are no start, where nothing waits under it
  pub record AreLater (own : ℕ) (n : Name) (p : Packet) : Type 0 where
    pub ours : is_ours own p ≡ true
    pub later : p.start ≡ false
    pub named : name_of p.envelope ≡ n

  no_start : (port : PortState) (n : Name) (ps : List Packet) → All (AreLater port.eid n) ps → port.kept.under n ≡ [] → hears_parts setup port before ps ≡ stays (left port ps) before
  no_start port n [] all none = parts_none port before
  no_start port n (p ∷ ps) all none =
      let here = All-head (AreLater port.eid n) p ps all in
      let empty : taken_under p port.kept ≡ [] = ap (λ (name : Name). port.kept.under name) here.named ∙ none in
      let ours : is_ours port.eid p ≡ true = here.ours in
      let later : p.start ≡ false = here.later in
      let cause : drop_cause port.eid port.kept p ≡ Some NoStart = rw (ours, later, empty) refl in
      let still : (after port.eid port.kept p).under n ≡ [] = ap (λ (c : Option DropCause). (after_where c p port.kept).under n) cause ∙ none in
      goes_on port p ps (dropped port p NoStart cause) ∙ no_start (with_kept port (after port.eid port.kept p)) n ps (All-tail (AreLater port.eid n) p ps all) still

  -- the packets behind the first are no start
  later_all : (own count from : ℕ) (m : Message) (ps : List Packet) → EachFrom (IsPiece count) (from + 1) (map piece ps) → All (λ p. p.envelope ≡ m.envelope) ps → All (λ p. is_ours own p ≡ true) ps
      → All (AreLater own (name_of m.envelope)) ps
  later_all own count from m [] pieces same ours = All-nil (AreLater own (name_of m.envelope))
  later_all own count from m (p ∷ ps) pieces same ours =
      let no_first : (from + 1 == 0) ≡ false = grind (arith, nat_tests) in
      All-cons (AreLater own (name_of m.envelope)) p ps
      (record { ours = All-head (λ q. is_ours own q ≡ true) p ps ours; later = pieces.0.started ∙ no_first; named = ap name_of (All-head (λ q. q.envelope ≡ m.envelope) p ps same) })
      (later_all own count (from + 1) m ps pieces.1 (All-tail (λ q. q.envelope ≡ m.envelope) p ps same) (All-tail (λ q. is_ours own q ≡ true) p ps ours))

  -- the packets of a message all are the endpoint's, or none is
  abbrev goes_to : ℕ → Message → Bool
  goes_to own m = (m.envelope.destination_eid == own) || (m.envelope.destination_eid == 0)

  all_as : (own : ℕ) (t : Bool) (m : Message) (ps : List Packet) → goes_to own m ≡ t → All (λ q. q.envelope ≡ m.envelope) ps → All (λ q. is_ours own q ≡ t) ps
  all_as own t m [] is same = All-nil (λ q. is_ours own q ≡ t)
  all_as own t m (p ∷ ps) is same =
      let there : p.envelope ≡ m.envelope = All-head (λ q. q.envelope ≡ m.envelope) p ps same in
      All-cons (λ q. is_ours own q ≡ t) p ps (ap (λ e. (e.destination_eid == own) || (e.destination_eid == 0)) there ∙ is)
      (all_as own t m ps is (All-tail (λ q. q.envelope ≡ m.envelope) p ps same))

  -- where there is no slot, the first of several packets is dropped, and so are those behind it
  no_slot : (port : PortState) (m : Message) (ps : List Packet) → IsCutOf m ps → All (λ q. is_ours port.eid q ≡ true) ps → nat_le (length ps) 1 ≡ false
      → nat_lt (open_beside (name_of m.envelope) port.kept) 8 ≡ false → hears_parts setup port before ps ≡ stays (left port ps) before
  no_slot port m [] h ours several full = absurd (omega (arith, h.cut.some))
  no_slot port m (p ∷ []) h ours several full = absurd (let one : nat_le 1 1 ≡ false = several in cc)
  no_slot port m (p ∷ q ∷ rest) h ours several full =
      let same : p.envelope ≡ m.envelope = All-head (λ x. x.envelope ≡ m.envelope) p (q ∷ rest) h.enveloped in
      let start : p.start ≡ true = h.cut.pieces.0.started in
      let count : ℕ = length (map piece (p ∷ q ∷ rest)) in
      let not_last : (0 + 1 == count) ≡ false = grind (arith, nat_tests) in
      let more : p.end ≡ false = h.cut.pieces.0.ended ∙ not_last in
      let place : p.sequence ≡ 0 = h.cut.pieces.0.numbered in
      let size : length p.payload ≡ 64 = h.cut.pieces.0.full (omega arith) in
      let mine : is_ours port.eid p ≡ true = All-head (λ x. is_ours port.eid x ≡ true) p (q ∷ rest) ours in
      let beside : nat_lt (open_beside (name_of p.envelope) port.kept) 8 ≡ false = ap (λ e. nat_lt (open_beside (name_of e) port.kept) 8) same ∙ full in
      let closes : nat_le 8 (open_beside (name_of p.envelope) port.kept) ≡ true = grind (arith, nat_tests) in
      let cause : drop_cause port.eid port.kept p ≡ Some NoSlot = rw (mine, start, more, place, size, closes) refl in
      let empty : (after port.eid port.kept p).under (name_of m.envelope) ≡ [] =
      ap (λ e. (after port.eid port.kept p).under (name_of e)) (sym same) ∙ own-name port.eid port.kept p ∙ ap (λ (c : Option DropCause). named_where c p port.kept) cause in
      goes_on port p (q ∷ rest) (dropped port p NoSlot cause)
      ∙ no_start (with_kept port (after port.eid port.kept p)) (name_of m.envelope) (q ∷ rest)
      (later_all port.eid count 0 m (q ∷ rest) h.cut.pieces.1 (All-tail (λ x. x.envelope ≡ m.envelope) p (q ∷ rest) h.enveloped) (All-tail (λ x. is_ours port.eid x ≡ true) p (q ∷ rest) ours))
      empty

  -- all of them, by where the message goes and by the slots
  abbrev Outcome : PortState → Message → Bool → Type 0
  Outcome port m t = hears_parts setup port before (parts_of m) ≡ cond t (hears_message setup (kept_with_parts port m) before m) (stays (kept_with_parts port m) before)

  by_slot : (port : PortState) (m : Message) → IsCutOf m (parts_of m) → All (λ q. is_ours port.eid q ≡ true) (parts_of m)
      → (short free : Bool) → nat_le (length (parts_of m)) 1 ≡ short → nat_lt (open_beside (name_of m.envelope) port.kept) 8 ≡ free → Outcome port m (short || free)
  by_slot port m h ours true free e f =
      heard port (parts_of m) m (cut-comes_back port.eid port.kept m (parts_of m) h ours (λ more. absurd (let few : length (parts_of m) ≤ 1 = leb-true (length (parts_of m)) 1 e in omega (arith, few, more))))
  by_slot port m h ours false true e f =
      heard port (parts_of m) m (cut-comes_back port.eid port.kept m (parts_of m) h ours (λ more. ltb-true (open_beside (name_of m.envelope) port.kept) 8 f))
  by_slot port m h ours false false e f = no_slot port m (parts_of m) h ours e f

  by_end : (port : PortState) (m : Message) → IsCutOf m (parts_of m) → (t : Bool) → goes_to port.eid m ≡ t → Outcome port m (t && has_slot port m)
  by_end port m h true e =
      by_slot port m h (all_as port.eid true m (parts_of m) e h.enveloped) (nat_le (length (parts_of m)) 1) (nat_lt (open_beside (name_of m.envelope) port.kept) 8) refl refl
  by_end port m h false e = not_ours port (parts_of m) (all_as port.eid false m (parts_of m) e h.enveloped)

pub parts_are_heard : PartsAreHeard
parts_are_heard setup port before m some fits = by_end setup before port m (cut m some fits) (is_for port m) refl

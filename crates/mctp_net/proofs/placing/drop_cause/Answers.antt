use Rattle.std.proofs.Common.{◌≡◌, ◌⊎◌, ℕ, ◌<◌, ◌≤◌, ◌==◌, ◌&&◌, ◌||◌, Bool, true, false, not, nat_le, cond, length, Some, None, inl, inr, refl, sym, ◌∙◌, ap, arith}
use Rattle.std.proofs.lemmas.Bool.{eq-eqb}
use Rattle.std.proofs.lemmas.Bool.Decides.{nat_tests}
use Rattle.mctp_net.specs.declared.packet.Packet.{Packet}
use Rattle.mctp_net.specs.declared.taken.DropCause.TheVariants.{NotOurs, NoStart, TooLong, OutOfSequence, UnitSize, NoSlot}
use Rattle.mctp_net.specs.Assembly.{Assemblies, name_of, open_beside, joined_to, fails, drop_cause}
use Rattle.mctp_net.specs.Places.{assemblies_in}
use Rattle.mctp_net.proofs.Causes.{joined-start, joined-more}
use Rattle.mctp_net.proofs.placing.drop_cause.Goals as goal
use Rattle.mctp_net.proofs.placing.drop_cause.Goals.{then-packet, else-packet}
use Rattle.mctp_net.proofs.placing.drop_cause.Goals.{else-not-packet-2-via-then-not-packet-2+else-as_slice-ne-UNIT_SIZE, else-not-packet-2-via-else-not-packet-2}
use Rattle.mctp_net.proofs.placing.drop_cause.Goals.{else-packet-2-via-then-packet-2+then-not-packet-3+else-used_beside-ge-MOST_ASSEMBLIES, else-packet-2-via-then-packet-2+else-not-packet-3, else-packet-2-via-else-packet-2}

-- each test, by what the code tests
ours : (own eid : ℕ) → ((eid ≡ own → ⊥) × (eid ≡ 0)) ⊎ (eid ≡ own) → not ((eid == own) || (eid == 0)) ≡ false
ours own eid h = grind (arith, nat_tests)

started : (start : Bool) (taken : ℕ) → ((start ≡ false) × (taken ≡ 0 → ⊥)) ⊎ (start ≡ true) → (not start && (taken == 0)) ≡ false
started start taken (inl h) = let some : (taken == 0) ≡ false = grind (arith, nat_tests) in rw (h.0, some) refl
started start taken (inr h) = rw h refl

whole_unit : (end : Bool) (n : ℕ) → (end ≡ true) ⊎ (n ≡ 64) → (not end && not (n == 64)) ≡ false
whole_unit true n h = refl
whole_unit false n (inl h) = absurd cc
whole_unit false n (inr h) = ap not (eq-eqb n 64 h)

part_unit : (end : Bool) (n : ℕ) → end ≡ false → (n ≡ 64 → ⊥) → (not end && not (n == 64)) ≡ true
part_unit end n more differs = let other : (n == 64) ≡ false = grind (arith, nat_tests) in rw (more, other) refl

slot_left : (start end : Bool) (n : ℕ) → (start ≡ false) ⊎ ((end ≡ true) ⊎ (n < 8)) → (start && not end && nat_le 8 n) ≡ false
slot_left false end n h = refl
slot_left true true n h = refl
slot_left true false n (inl h) = absurd cc
slot_left true false n (inr (inl h)) = absurd cc
slot_left true false n (inr (inr h)) = grind (arith, nat_tests)

no_slot : (start end : Bool) (n : ℕ) → start ≡ true → end ≡ false → 8 ≤ n → (start && not end && nat_le 8 n) ≡ true
no_slot start end n first more full = let all : nat_le 8 n ≡ true = grind (arith, nat_tests) in rw (first, more, all) refl

-- only the last two tests are left where the first four fail
by_last : (a b c d e f unit slot : Bool) → a ≡ false → b ≡ false → c ≡ false → d ≡ false → e ≡ unit → f ≡ slot
    → cond unit (Some UnitSize) (cond slot (Some NoSlot) None)
    ≡ cond a (Some NotOurs) (cond b (Some NoStart) (cond c (Some TooLong) (cond d (Some OutOfSequence) (cond e (Some UnitSize) (cond f (Some NoSlot) None)))))
by_last a b c d e f unit slot h i j k l m = rw (h, i, j, k, l, m) refl

in_sequence : (own : ℕ) (a : Assemblies) (p : Packet) (number : ℕ) (unit slot : Bool) → fails own a p NotOurs ≡ false → fails own a p NoStart ≡ false
    → length (joined_to p a) ≡ number → number < 4 → p.sequence ≡ number → fails own a p UnitSize ≡ unit → fails own a p NoSlot ≡ slot
    → cond unit (Some UnitSize) (cond slot (Some NoSlot) None) ≡ drop_cause own a p
in_sequence own a p number unit slot mine begun joined few next sized free =
    let short : fails own a p TooLong ≡ false = grind (arith, nat_tests) in
    by_last (fails own a p NotOurs) (fails own a p NoStart) (fails own a p TooLong) (fails own a p OutOfSequence) (fails own a p UnitSize) (fails own a p NoSlot) unit slot
    mine begun short (ap not (eq-eqb p.sequence (length (joined_to p a)) (next ∙ sym joined))) sized free

pub returns-then-as_slice-ne-UNIT_SIZE : goal.returns-then-as_slice-ne-UNIT_SIZE
returns-then-as_slice-ne-UNIT_SIZE c =
    let p = c.args.packet.now in
    let a = assemblies_in c.args.places.now None in
    let joined : length (joined_to p a) ≡ c.if-packet.number = elim c.if-packet.branch [
      | then-packet w ↦ joined-start p a w.if-packet.true ∙ sym w.number-is
      | else-packet w ↦ ap length (joined-more p a w.if-packet.false) ∙ sym c.taken_at-taken.ensures ∙ sym w.number-is
    ] in
    in_sequence c.args.own a p c.if-packet.number true _ (ours c.args.own p.envelope.destination_eid c.else-destination_eid-own.either)
    (ap (λ (n : ℕ). not p.start && (n == 0)) (sym c.taken_at-taken.ensures) ∙ started p.start c.taken_at-taken.result c.else-not-packet.either)
    joined (omega arith) (sym c.number.ensures.value ∙ sym c.from.ensures ∙ c.if-from-number.false)
    (part_unit p.end (length p.payload) c.if-not-packet-2.true (λ all. c.if-as_slice-ne-UNIT_SIZE.true (ap length c.as_slice.ensures.value ∙ all))) refl

pub returns-then-used_beside-ge-MOST_ASSEMBLIES : goal.returns-then-used_beside-ge-MOST_ASSEMBLIES
returns-then-used_beside-ge-MOST_ASSEMBLIES c =
    let p = c.args.packet.now in
    let a = assemblies_in c.args.places.now None in
    let joined : length (joined_to p a) ≡ c.if-packet.number = elim c.if-packet.branch [
      | then-packet w ↦ joined-start p a w.if-packet.true ∙ sym w.number-is
      | else-packet w ↦ ap length (joined-more p a w.if-packet.false) ∙ sym c.taken_at-taken.ensures ∙ sym w.number-is
    ] in
    let sized : fails c.args.own a p UnitSize ≡ false = elim c.else-not-packet-2.branch [
      | else-not-packet-2-via-then-not-packet-2+else-as_slice-ne-UNIT_SIZE w ↦ whole_unit p.end (length p.payload) (inr (sym (ap length w.as_slice.ensures.value) ∙ w.if-as_slice-ne-UNIT_SIZE.false))
      | else-not-packet-2-via-else-not-packet-2 w ↦ whole_unit p.end (length p.payload) (inl w.if-not-packet-2.false)
    ] in
    in_sequence c.args.own a p c.if-packet.number false true (ours c.args.own p.envelope.destination_eid c.else-destination_eid-own.either)
    (ap (λ (n : ℕ). not p.start && (n == 0)) (sym c.taken_at-taken.ensures) ∙ started p.start c.taken_at-taken.result c.else-not-packet.either)
    joined (omega arith) (sym c.number.ensures.value ∙ sym c.from.ensures ∙ c.if-from-number.false)
    sized (no_slot p.start p.end (open_beside (name_of p.envelope) a) c.if-packet-2.true c.if-not-packet-3.true (omega (arith, c.used_beside.ensures, c.if-used_beside-ge-MOST_ASSEMBLIES.true)))

pub returns : goal.returns
returns c =
    let p = c.args.packet.now in
    let a = assemblies_in c.args.places.now None in
    let joined : length (joined_to p a) ≡ c.if-packet.number = elim c.if-packet.branch [
      | then-packet w ↦ joined-start p a w.if-packet.true ∙ sym w.number-is
      | else-packet w ↦ ap length (joined-more p a w.if-packet.false) ∙ sym c.taken_at-taken.ensures ∙ sym w.number-is
    ] in
    let sized : fails c.args.own a p UnitSize ≡ false = elim c.else-not-packet-2.branch [
      | else-not-packet-2-via-then-not-packet-2+else-as_slice-ne-UNIT_SIZE w ↦ whole_unit p.end (length p.payload) (inr (sym (ap length w.as_slice.ensures.value) ∙ w.if-as_slice-ne-UNIT_SIZE.false))
      | else-not-packet-2-via-else-not-packet-2 w ↦ whole_unit p.end (length p.payload) (inl w.if-not-packet-2.false)
    ] in
    let left : (p.start ≡ false) ⊎ ((p.end ≡ true) ⊎ (open_beside (name_of p.envelope) a < 8)) = elim c.else-packet-2.branch [
      | else-packet-2-via-then-packet-2+then-not-packet-3+else-used_beside-ge-MOST_ASSEMBLIES w ↦ inr (inr (omega (arith, w.used_beside.ensures, w.if-used_beside-ge-MOST_ASSEMBLIES.false)))
      | else-packet-2-via-then-packet-2+else-not-packet-3 w ↦ inr (inl w.if-not-packet-3.false)
      | else-packet-2-via-else-packet-2 w ↦ inl w.if-packet-2.false
    ] in
    in_sequence c.args.own a p c.if-packet.number false false (ours c.args.own p.envelope.destination_eid c.else-destination_eid-own.either)
    (ap (λ (n : ℕ). not p.start && (n == 0)) (sym c.taken_at-taken.ensures) ∙ started p.start c.taken_at-taken.result c.else-not-packet.either)
    joined (omega arith) (sym c.number.ensures.value ∙ sym c.from.ensures ∙ c.if-from-number.false)
    sized (slot_left p.start p.end (open_beside (name_of p.envelope) a) left)

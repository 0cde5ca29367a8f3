-- A packet's step under its name is the model's.
use Rattle.std.proofs.Common.{◌≡◌, ℕ, suc, Bool, true, false, not, ◌&&◌, ◌||◌, cond, List, [], ◌∷◌, ◌++◌, length, map, Option, Some, None, refl, sym, ◌∙◌, ap, subst, arith}
use Rattle.std.specs.Prelude.{nat_le, ◌==◌}
use Rattle.std.proofs.lemmas.Bool.Decides.{nat_tests}
use Rattle.std.proofs.lemmas.List.{length-map}
use Rattle.mctp_net.specs.declared.packet.Packet.{Packet}
use Rattle.mctp_net.specs.declared.taken.DropCause.{DropCause}
use Rattle.mctp_net.specs.declared.taken.DropCause.TheVariants.{NotOurs, NoStart, TooLong, OutOfSequence, UnitSize, NoSlot}
use Rattle.mctp_net.specs.Cut.{Piece, piece}
use Rattle.mctp_net.specs.Assembly.{Assemblies, taken_under, joined_to, fails, drop_cause}
use Rattle.model_bus.specs.Assembly.{SentPacket, Step, Waits, Whole, Drops, joined, takes, waiting}
use Rattle.bmc_core.specs.Seen.{seen, AreSeen, AgreesWithJoin}

abbrev Result : Type 0
Result = Step × List SentPacket

-- the first test that holds
abbrev pub first_of : Bool → Bool → Bool → Bool → Bool → Bool → Option DropCause
first_of a b c d e f = cond a (Some NotOurs) (cond b (Some NoStart) (cond c (Some TooLong) (cond d (Some OutOfSequence) (cond e (Some UnitSize) (cond f (Some NoSlot) None)))))

-- the model's step by its tests
abbrev by_tests : Bool → Bool → Bool → Bool → List SentPacket → Result
by_tests long placed ends full ss = cond (long || not placed) (Drops, []) (cond ends (Whole ss, []) (cond (not full) (Drops, []) (Waits, ss)))

tests-agree : (a long placed ends full f : Bool) (ss : List SentPacket) → AgreesWithJoin (first_of a false long (not placed) (not ends && not full) f) ends ss (by_tests long placed ends full ss)
tests-agree true long placed ends full f ss = tt
tests-agree false true placed ends full f ss = refl
tests-agree false false false ends full f ss = refl
tests-agree false false true true full true ss = tt
tests-agree false false true true full false ss = refl
tests-agree false false true false false f ss = refl
tests-agree false false true false true true ss = tt
tests-agree false false true false true false ss = refl

no_start-agrees : (a c d e f : Bool) (ends : Bool) (ss : List SentPacket) → AgreesWithJoin (first_of a true c d e f) ends ss (Drops, [])
no_start-agrees true c d e f ends ss = tt
no_start-agrees false c d e f ends ss = refl

-- as many are seen as are
same-length : (ss : List SentPacket) (ps : List Piece) → AreSeen ss ps → length ss ≡ length ps
same-length ss ps h = sym (length-map ss (λ (s : SentPacket). s.packet)) ∙ ap length h ∙ length-map ps seen

later : (n : ℕ) → (suc n == 0) ≡ false
later n = grind (arith, nat_tests)

module _ (own : ℕ) (a : Assemblies) (p : Packet) (s : SentPacket) (ss : List SentPacket) (is : s.packet ≡ seen (piece p)) (same : AreSeen ss (taken_under p a)) where
  -- to the same packets
  pub joins-same : AreSeen (waiting ss s) (joined_to p a)
  joins-same = ap (λ (b : Bool). map (λ (s : SentPacket). s.packet) (cond b [] ss)) (ap (λ q. q.first) is) ∙ by_start p.start
    where
      by_start : (b : Bool) → AreSeen (cond b [] ss) (cond b [] (taken_under p a))
      by_start true = refl
      by_start false = same

  abbrev joined_now : List SentPacket
  joined_now = waiting ss s ++ s ∷ []

  joined-is : joined (waiting ss s) s ≡ by_tests (nat_le 4 (length (joined_to p a))) (p.sequence == length (joined_to p a)) p.end (length p.payload == 64) joined_now
  joined-is =
      let n : length (waiting ss s) ≡ length (joined_to p a) = same-length (waiting ss s) (joined_to p a) joins-same in
      ap (λ (n : ℕ). by_tests (nat_le 4 n) (s.packet.sequence == n) s.packet.last (length s.packet.payload == 64) joined_now) n
      ∙ ap (λ q. by_tests (nat_le 4 (length (joined_to p a))) (q.sequence == length (joined_to p a)) q.last (length q.payload == 64) joined_now) is

  -- a start, or a packet to an open assembly, is joined
  takes-joined : (ss : List SentPacket) (first : Bool) → s.packet.first ≡ first → (not first && (length ss == 0)) ≡ false → takes ss s ≡ joined (cond first [] ss) s
  takes-joined [] true e holds = ap (λ (b : Bool). cond b (joined [] s) (Drops, [])) e
  takes-joined [] false e holds = absurd cc
  takes-joined (t ∷ ts) true e holds = ap (λ (b : Bool). cond b (joined [] s) (joined (t ∷ ts) s)) e
  takes-joined (t ∷ ts) false e holds = ap (λ (b : Bool). cond b (joined [] s) (joined (t ∷ ts) s)) e

  takes-none : (ss : List SentPacket) (first : Bool) → s.packet.first ≡ first → (not first && (length ss == 0)) ≡ true → takes ss s ≡ (Drops, [])
  takes-none ss true e holds = absurd cc
  takes-none [] false e holds = ap (λ (b : Bool). let r : Result = cond b (joined [] s) (Drops, []) in r) e
  takes-none (t ∷ ts) false e holds = absurd (let no : false ≡ true = sym (later (length ts)) ∙ holds in cc)

  start-is : s.packet.first ≡ p.start
  start-is = ap (λ q. q.first) is

  test-is : (not p.start && (length ss == 0)) ≡ (not p.start && (length (taken_under p a) == 0))
  test-is = ap (λ (n : ℕ). not p.start && (n == 0)) (same-length ss (taken_under p a) same)

  -- the model's step is the assembler's
  pub step-agrees : AgreesWithJoin (drop_cause own a p) p.end joined_now (takes ss s)
  step-agrees = by_no_start (not p.start && (length (taken_under p a) == 0)) refl
    where
      by_no_start : (b : Bool) → (not p.start && (length (taken_under p a) == 0)) ≡ b → AgreesWithJoin (drop_cause own a p) p.end joined_now (takes ss s)
      by_no_start true e =
          subst (λ (r : Result). AgreesWithJoin (drop_cause own a p) p.end joined_now r) (sym (takes-none ss p.start start-is (test-is ∙ e)))
          (subst (λ (b : Bool). AgreesWithJoin (first_of (fails own a p NotOurs) b (fails own a p TooLong) (fails own a p OutOfSequence) (fails own a p UnitSize) (fails own a p NoSlot)) p.end joined_now (Drops, [])) (sym e)
          (no_start-agrees (fails own a p NotOurs) (fails own a p TooLong) (fails own a p OutOfSequence) (fails own a p UnitSize) (fails own a p NoSlot) p.end joined_now))
      by_no_start false e =
          subst (λ (r : Result). AgreesWithJoin (drop_cause own a p) p.end joined_now r)
          (sym (takes-joined ss p.start start-is (test-is ∙ e) ∙ ap (λ (b : Bool). joined (cond b [] ss) s) (sym start-is) ∙ joined-is))
          (subst (λ (b : Bool). AgreesWithJoin (first_of (fails own a p NotOurs) b (fails own a p TooLong) (fails own a p OutOfSequence) (fails own a p UnitSize) (fails own a p NoSlot)) p.end joined_now
          (by_tests (nat_le 4 (length (joined_to p a))) (p.sequence == length (joined_to p a)) p.end (length p.payload == 64) joined_now)) (sym e)
          (tests-agree (fails own a p NotOurs) (nat_le 4 (length (joined_to p a))) (p.sequence == length (joined_to p a)) p.end (length p.payload == 64) (fails own a p NoSlot) joined_now))

pub takes-agrees : (own : ℕ) (a : Assemblies) (p : Packet) (s : SentPacket) (taken : List SentPacket) → s.packet ≡ seen (piece p) → AreSeen taken (taken_under p a)
    → AgreesWithJoin (drop_cause own a p) p.end (waiting taken s ++ s ∷ []) (takes taken s)
takes-agrees own a p s taken is same = step-agrees own a p s taken is same

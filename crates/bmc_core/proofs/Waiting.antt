-- After a packet the same waits in the model and at the assembler.
use Rattle.std.proofs.Common.{◌≡◌, ℕ, Bool, true, false, not, ◌&&◌, cond, List, [], ◌∷◌, ◌++◌, length, Option, Some, None, refl, sym, ◌∙◌, ap, subst, arith}
use Rattle.std.proofs.lemmas.Bool.Decides.{nat_tests}
use Rattle.std.specs.Prelude.{◌==◌}
use Rattle.std.proofs.lemmas.List.{map-append}
use Rattle.mctp_net.specs.declared.packet.Name.{Name}
use Rattle.mctp_net.specs.declared.packet.Packet.{Packet}
use Rattle.mctp_net.specs.declared.taken.DropCause.{DropCause}
use Rattle.mctp_net.specs.declared.taken.DropCause.TheVariants.{NotOurs, NoStart, TooLong, OutOfSequence, UnitSize, NoSlot}
use Rattle.mctp_net.specs.Grammar.{bit}
use Rattle.mctp_net.specs.Cut.{Piece, piece}
use Rattle.mctp_net.specs.Assembly.{Assemblies, name_of, is_name, taken_under, joined_to, fails, drop_cause, after, named_where}
use Rattle.mctp_net.proofs.Names.{name-one, name-self}
use Rattle.mctp_net.proofs.NamesAlone.{own-name, other-name}
use Rattle.model_bus.specs.Assembly.{Name as ModelName, is_name as is_model_name, SentPacket, Step, takes, waiting}
use Rattle.bmc_core.specs.Seen.{seen, seen_name, AreSeen, WaitsAlike, AgreesWithJoin, model_after}
use Rattle.model_bus.specs.PacketBus.{set_at}
use Rattle.bmc_core.proofs.PacketSteps.{first_of, joins-same, takes-agrees}

-- names are the same in both
names-alike : (m n : Name) → is_model_name (seen_name m) (seen_name n) ≡ is_name m n
names-alike m n = ap (λ (b : Bool). ((m.source_eid == n.source_eid) && b) && (m.tag == n.tag)) (owners m.tag_owner n.tag_owner)
  where
    owners : (a b : Bool) → cond a b (not b) ≡ (bit a == bit b)
    owners true true = refl
    owners true false = refl
    owners false true = refl
    owners false false = refl

-- a packet that is dropped as NoStart finds nothing under its name
found_none : (a b c d e f : Bool) → first_of a b c d e f ≡ Some NoStart → b ≡ true
found_none true b c d e f h = absurd cc
found_none false true c d e f h = refl
found_none false false true d e f h = absurd cc
found_none false false false true e f h = absurd cc
found_none false false false false true f h = absurd cc
found_none false false false false false true h = absurd cc
found_none false false false false false false h = absurd cc

none-under : (a : Bool) (ps : List Piece) → (a && (length ps == 0)) ≡ true → [] ≡ ps
none-under a [] h = refl
none-under true (p ∷ ps) h = absurd (let no : (length (p ∷ ps) == 0) ≡ false = grind (arith, nat_tests) in let bad : true ≡ false = sym h ∙ no in cc)
none-under false (p ∷ ps) h = absurd cc

module _ (own : ℕ) (a : Assemblies) (p : Packet) (s : SentPacket) (port : ModelName → List SentPacket) (is : s.packet ≡ seen (piece p)) (alike : WaitsAlike port a) where
  abbrev mine : ModelName
  mine = seen_name (name_of p.envelope)

  same : AreSeen (port mine) (taken_under p a)
  same = alike (name_of p.envelope)

  joined-alike : AreSeen (waiting (port mine) s ++ s ∷ []) (joined_to p a ++ piece p ∷ [])
  joined-alike =
      map-append (λ (s : SentPacket). s.packet) (waiting (port mine) s) (s ∷ [])
      ∙ (λ i. joins-same own a p s (port mine) is same i ++ is i ∷ [])
      ∙ sym (map-append seen (joined_to p a) (piece p ∷ []))

  at-own : (ss : List SentPacket) → set_at mine ss port mine ≡ ss
  at-own ss = ap (λ (b : Bool). cond b ss (port mine)) (names-alike (name_of p.envelope) (name_of p.envelope) ∙ name-self (name_of p.envelope))

  -- where nothing is left
  none-left : (ss : List SentPacket) → ss ≡ [] → AreSeen (set_at mine ss port mine) []
  none-left ss e = subst (λ (ts : List SentPacket). AreSeen ts []) (sym (at-own ss ∙ e)) refl

  by_end : (b : Bool) → AgreesWithJoin None b (waiting (port mine) s ++ s ∷ []) (takes (port mine) s) → AreSeen (set_at mine (takes (port mine) s).1 port mine) (cond b [] (joined_to p a ++ piece p ∷ []))
  by_end true h = none-left (takes (port mine) s).1 (ap (λ (r : Step × List SentPacket). r.1) h)
  by_end false h = subst (λ (ts : List SentPacket). AreSeen ts (joined_to p a ++ piece p ∷ [])) (sym (at-own (takes (port mine) s).1 ∙ ap (λ (r : Step × List SentPacket). r.1) h)) joined-alike

  own-alike : (cause : Option DropCause) → drop_cause own a p ≡ cause → AgreesWithJoin cause p.end (waiting (port mine) s ++ s ∷ []) (takes (port mine) s) → AreSeen (model_after cause mine s port mine) (named_where cause p a)
  own-alike (Some NotOurs) e h = same
  own-alike (Some NoStart) e h =
      subst (λ (ps : List Piece). AreSeen (set_at mine (takes (port mine) s).1 port mine) ps)
      (none-under (not p.start) (taken_under p a) (found_none (fails own a p NotOurs) (fails own a p NoStart) (fails own a p TooLong) (fails own a p OutOfSequence) (fails own a p UnitSize) (fails own a p NoSlot) e))
      (none-left (takes (port mine) s).1 (ap (λ (r : Step × List SentPacket). r.1) h))
  own-alike (Some TooLong) e h = none-left (takes (port mine) s).1 (ap (λ (r : Step × List SentPacket). r.1) h)
  own-alike (Some OutOfSequence) e h = none-left (takes (port mine) s).1 (ap (λ (r : Step × List SentPacket). r.1) h)
  own-alike (Some UnitSize) e h = none-left (takes (port mine) s).1 (ap (λ (r : Step × List SentPacket). r.1) h)
  own-alike (Some NoSlot) e h = none-left [] refl
  own-alike None e h = by_end p.end h

  -- what waits under another name stays
  stays : (n : Name) (ss : List SentPacket) → is_name n (name_of p.envelope) ≡ false → set_at mine ss port (seen_name n) ≡ port (seen_name n)
  stays n ss e = ap (λ (b : Bool). cond b ss (port (seen_name n))) (names-alike n (name_of p.envelope) ∙ e)

  other-stays : (n : Name) (cause : Option DropCause) → is_name n (name_of p.envelope) ≡ false → model_after cause mine s port (seen_name n) ≡ port (seen_name n)
  other-stays n (Some NotOurs) e = refl
  other-stays n (Some NoStart) e = stays n (takes (port mine) s).1 e
  other-stays n (Some TooLong) e = stays n (takes (port mine) s).1 e
  other-stays n (Some OutOfSequence) e = stays n (takes (port mine) s).1 e
  other-stays n (Some UnitSize) e = stays n (takes (port mine) s).1 e
  other-stays n (Some NoSlot) e = stays n [] e
  other-stays n None e = stays n (takes (port mine) s).1 e

  by_name : (n : Name) (b : Bool) → is_name n (name_of p.envelope) ≡ b → AreSeen (model_after (drop_cause own a p) mine s port (seen_name n)) ((after own a p).under n)
  by_name n true e =
      subst (λ (m : Name). AreSeen (model_after (drop_cause own a p) mine s port (seen_name m)) ((after own a p).under m)) (sym (name-one n (name_of p.envelope) e))
      (subst (λ (ps : List Piece). AreSeen (model_after (drop_cause own a p) mine s port mine) ps) (sym (own-name own a p))
      (own-alike (drop_cause own a p) refl (takes-agrees own a p s (port mine) is same)))
  by_name n false e =
      subst (λ (ps : List Piece). AreSeen (model_after (drop_cause own a p) mine s port (seen_name n)) ps) (sym (other-name own a p n e))
      (subst (λ (ts : List SentPacket). AreSeen ts (a.under n)) (sym (other-stays n (drop_cause own a p) e)) (alike n))

pub waits-alike : (own : ℕ) (a : Assemblies) (p : Packet) (s : SentPacket) (port : ModelName → List SentPacket) → s.packet ≡ seen (piece p)
    → WaitsAlike port a → WaitsAlike (model_after (drop_cause own a p) (seen_name (name_of p.envelope)) s port) (after own a p)
waits-alike own a p s port is alike n = by_name own a p s port is alike n (is_name n (name_of p.envelope)) refl

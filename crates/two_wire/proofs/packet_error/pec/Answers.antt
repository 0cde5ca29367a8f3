use Rattle.std.proofs.Common.{ℕ, ◌+◌, ◌<◌, List, drop, get_or, sym, ◌∙◌, ap, subst, arith}
use Rattle.std.proofs.lemmas.List.{get_or-drop}
use Rattle.two_wire.proofs.PacketError.{left_of, behind, left_of-next, left_of-four, left_of-end, has_pec, one-pec}
use Rattle.two_wire.proofs.packet_error.pec.Goals as goal

-- the bytes behind the first of a list of bytes are bytes
still : (n : ℕ) (bytes : List ℕ) → ((i : ℕ) → get_or bytes i 0 < 256) → (i : ℕ) → get_or (drop n bytes) i 0 < 256
still n bytes all i = rw (get_or-drop n bytes i 0) (all (n + i))

pub returns-in-empty-clause-remainder : goal.returns-in-empty-clause-remainder
returns-in-empty-clause-remainder c = left_of-end c.loop-left.code c.loop-left.left.now c.args.bytes.now (omega arith) (omega arith) c.loop-left.invariant.same

pub returns-in-empty-clause-value : goal.returns-in-empty-clause-value
returns-in-empty-clause-value c = one-pec c.args.bytes.now _ _ (returns-in-empty-clause-remainder c) (has_pec c.args.bytes.now)

pub loop-left-preserved-then-left-lt4 : goal.loop-left-preserved-then-left-lt4
loop-left-preserved-then-left-lt4 c = record {
  same = ap (left_of _) (behind 1 c.loop-left.left.now)
      ∙ left_of-next c.loop-left.code c.from.result c.loop-left.left.now c.in-len1-up.len_at_least (omega arith) c.loop-left.invariant.bytes c.from.ensures ∙ c.loop-left.invariant.same;
  bytes = subst (λ (xs : List ℕ). (i : ℕ) → get_or xs i 0 < 256) (sym (behind 1 c.loop-left.left.now)) (still 1 c.loop-left.left.now c.loop-left.invariant.bytes);
}

pub loop-left-preserved : goal.loop-left-preserved
loop-left-preserved c = record {
  same = ap (left_of _) (behind 4 c.loop-left.left.now)
      ∙ left_of-four c.loop-left.code c.from-in-len4-up.result c.from-in-len4-up-2.result c.from-in-len4-up-3.result c.from-in-len4-up-4.result c.loop-left.left.now
      c.in-len4-up.len_at_least (omega arith) c.loop-left.invariant.bytes
      c.from-in-len4-up.ensures c.from-in-len4-up-2.ensures c.from-in-len4-up-3.ensures c.from-in-len4-up-4.ensures
      ∙ c.loop-left.invariant.same;
  bytes = subst (λ (xs : List ℕ). (i : ℕ) → get_or xs i 0 < 256) (sym (behind 4 c.loop-left.left.now)) (still 4 c.loop-left.left.now c.loop-left.invariant.bytes);
}

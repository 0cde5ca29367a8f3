use Rattle.std.proofs.Common.{◌≡◌, ◌==◌, ◌&&◌, ℕ, true, false, sym, ◌∙◌, ap}
use Rattle.std.proofs.lemmas.Bool.{true≢false}
use Rattle.undo_core.proofs.hearing.is_header_of.Goals.{then-eq, else-eq}
use Rattle.undo_core.proofs.hearing.is_header_of.Goals as goal

pub returns-then-number-kind : goal.returns-then-number-kind
returns-then-number-kind c =
    let h = c.args.header.now in
    elim c.if-eq.branch [
      | then-eq w ↦
          let number : (h.instance == c.args.instance) ≡ true = sym c.eq.ensures ∙ w.if-eq.true in
          let type : (h.pldm_type == c.args.kind) ≡ true = ap (λ (n : ℕ). n == c.args.kind) (sym w.number.ensures.value) ∙ sym w.value-is ∙ c.if-number-kind.true in
          sym (λ i. number i && type i && h.command == c.args.command)
      | else-eq w ↦ absurd (true≢false (sym c.if-number-kind.true ∙ w.value-is ∙ w.if-eq.false))
    ]

pub returns-else-number-kind : goal.returns-else-number-kind
returns-else-number-kind c =
    let h = c.args.header.now in
    elim c.if-eq.branch [
      | then-eq w ↦
          let number : (h.instance == c.args.instance) ≡ true = sym c.eq.ensures ∙ w.if-eq.true in
          let type : (h.pldm_type == c.args.kind) ≡ false = ap (λ (n : ℕ). n == c.args.kind) (sym w.number.ensures.value) ∙ sym w.value-is ∙ c.if-number-kind.false in
          c.if-number-kind.false ∙ sym (λ i. number i && type i && h.command == c.args.command)
      | else-eq w ↦
          let number : (h.instance == c.args.instance) ≡ false = sym c.eq.ensures ∙ w.if-eq.false in
          c.if-number-kind.false ∙ sym (λ i. number i && h.pldm_type == c.args.kind && h.command == c.args.command)
    ]

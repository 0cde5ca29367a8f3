use Rattle.std.proofs.Common.{◌≡◌, ◌==◌, ◌&&◌, not, Bool, true, false, sym, ◌∙◌, ap, arith}
use Rattle.std.proofs.lemmas.Bool.{true≢false}
use Rattle.model_bus.specs.Bytes.{ipmb_answers, is_busy_code}
use Rattle.bmc_core.specs.Wires.{bytes_of}
use Rattle.bmc_core.specs.Bytes.{response_bytes}
use Rattle.undo_core.specs.Shown.{own}
use Rattle.undo_core.proofs.Heard.{ipmb_by_fields}
use Rattle.undo_core.proofs.hearing.is_answer_to.Goals.{then-eq, else-eq}
use Rattle.undo_core.proofs.hearing.is_answer_to.Goals as goal

pub returns-then-eq-2 : goal.returns-then-eq-2
returns-then-eq-2 c names on =
    let r = c.args.response.now in
    let h = r.header in
    let a = c.in-Ipmi in
    let both : (h.net_fn == a.net_fn && h.sequence == c.args.sequence) ≡ true =
    elim c.if-eq.branch [
      | then-eq w ↦
          let one : (h.net_fn == a.net_fn) ≡ true = sym c.eq.ensures ∙ w.if-eq.true in
          let two : (h.sequence == c.args.sequence) ≡ true = sym w.eq-then-eq.ensures ∙ sym w.value-is ∙ c.if-eq-2.true in
          (λ i. one i && two i)
      | else-eq w ↦ absurd (true≢false (sym c.if-eq-2.true ∙ w.value-is ∙ w.if-eq.false))
    ] in
    (λ i. ipmb_answers (bytes_of c.args.sequence (own names (a.is i))) (response_bytes r))
    ∙ ipmb_by_fields a.net_fn a.lun a.command c.args.sequence a.body r (omega (arith, c.number-lun.ensures)) (omega (arith, c.number-2.ensures)) (omega (arith, c.number.ensures)) a.from
    ∙ ap (λ (b : Bool). (b && h.command == a.command) && not (is_busy_code r.code)) both

pub returns-else-eq-2 : goal.returns-else-eq-2
returns-else-eq-2 c names on =
    let r = c.args.response.now in
    let h = r.header in
    let a = c.in-Ipmi in
    let both : (h.net_fn == a.net_fn && h.sequence == c.args.sequence) ≡ false =
    elim c.if-eq.branch [
      | then-eq w ↦
          let one : (h.net_fn == a.net_fn) ≡ true = sym c.eq.ensures ∙ w.if-eq.true in
          let two : (h.sequence == c.args.sequence) ≡ false = sym w.eq-then-eq.ensures ∙ sym w.value-is ∙ c.if-eq-2.false in
          (λ i. one i && two i)
      | else-eq w ↦
          let one : (h.net_fn == a.net_fn) ≡ false = sym c.eq.ensures ∙ w.if-eq.false in
          (λ i. one i && h.sequence == c.args.sequence)
    ] in
    (λ i. ipmb_answers (bytes_of c.args.sequence (own names (a.is i))) (response_bytes r))
    ∙ ipmb_by_fields a.net_fn a.lun a.command c.args.sequence a.body r (omega (arith, c.number-lun.ensures)) (omega (arith, c.number-2.ensures)) (omega (arith, c.number.ensures)) a.from
    ∙ ap (λ (b : Bool). (b && h.command == a.command) && not (is_busy_code r.code)) both
    ∙ ap (λ (b : Bool). b && not (is_busy_code r.code)) (sym c.if-eq-2.false)

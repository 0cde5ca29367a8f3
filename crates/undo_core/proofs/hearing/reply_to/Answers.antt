use Rattle.std.proofs.Common.{◌≡◌, ◌≤◌, ℕ, ◌-◌, ◌&&◌, not, Bool, List, [], ◌∷◌, length, take, drop, sym, ◌∙◌, ap, arith}
use Rattle.std.specs.Prelude.{slice_index}
use Rattle.std.proofs.Math.Seq.{take-length}
use Rattle.model_bus.specs.Bytes.{pldm_answers, is_busy_code}
use Rattle.bmc_core.specs.Wires.{bytes_of, answered_from}
use Rattle.two_wire.specs.declared.Bus.TheVariants.{Smbus}
use Rattle.undo_core.specs.Shown.{own, is_header_of}
use Rattle.undo_core.proofs.Heard.{pldm_by_fields}
use Rattle.undo_core.proofs.hearing.reply_to.Goals as goal

-- a message of PLDM is its type, and the bytes behind it
pldm_message : (message bytes : List ℕ) → 1 ≤ length message → slice_index message 0 ≡ 1 → bytes ≡ take (length message - 1) (drop 1 message) → message ≡ 1 ∷ bytes
pldm_message [] bytes some first behind = absurd (omega (arith, some))
pldm_message (type ∷ rest) bytes some first behind =
    let all : length (type ∷ rest) - 1 ≡ length rest = omega arith in
    (λ i. first i ∷ rest) ∙ ap (λ (l : List ℕ). 1 ∷ l) (sym (behind ∙ ap (λ (n : ℕ). take n rest) all ∙ take-length rest))

pub returns-clause-some : goal.returns-clause-some
returns-clause-some c =
    let r = c.in-Ok.reply in
    let is : c.args.message.now ≡ 1 ∷ c.new.result = pldm_message c.args.message.now c.new.result c.in-len1-up.len_at_least c.if-first-ne-PLDM_MESSAGE_TYPE.false c.new.ensures in
    let read = c.in-Ok.ensures.read in
    record {
      answer = ap (answered_from Smbus) (is ∙ ap (λ (l : List ℕ). 1 ∷ l) read.1.spelled) ∙ (λ i. record { code = r.code; body = sym c.as_slice.ensures.value i });
      tells = λ names on.
          (λ i. pldm_answers (bytes_of c.args.instance (own names (c.in-Pldm.is i))) (is i))
          ∙ pldm_by_fields names c.in-Pldm.from c.in-Pldm.kind c.in-Pldm.command c.args.instance c.in-Pldm.body r c.new.result (omega arith) read
          ∙ ap (λ (b : Bool). b && not (is_busy_code r.code)) (ap (λ (k : ℕ). is_header_of r.header c.args.instance k c.in-Pldm.command) (sym c.number-kind.ensures.value) ∙ sym c.is_header_of.ensures ∙ c.if-not-is_header_of.false);
    }

pub returns-then-not-is_header_of-clause-none : goal.returns-then-not-is_header_of-clause-none
returns-then-not-is_header_of-clause-none c none names on =
    let r = c.in-Ok.reply in
    let is : c.args.message.now ≡ 1 ∷ c.new.result = pldm_message c.args.message.now c.new.result c.in-len1-up.len_at_least c.if-first-ne-PLDM_MESSAGE_TYPE.false c.new.ensures in
    (λ i. pldm_answers (bytes_of c.args.instance (own names (c.in-Pldm.is i))) (is i))
    ∙ pldm_by_fields names c.in-Pldm.from c.in-Pldm.kind c.in-Pldm.command c.args.instance c.in-Pldm.body r c.new.result (omega arith) c.in-Ok.ensures.read
    ∙ ap (λ (b : Bool). b && not (is_busy_code r.code)) (ap (λ (k : ℕ). is_header_of r.header c.args.instance k c.in-Pldm.command) (sym c.number-kind.ensures.value) ∙ sym c.is_header_of.ensures ∙ c.if-not-is_header_of.true)

-- A reply answers the manager's request by its fields where it does by its bytes.
use Rattle.std.proofs.Common.{◌≡◌, ℕ, ◌+◌, ◌*◌, ◌/◌, ◌%◌, ◌<◌, Bool, true, false, not, ◌&&◌, ◌||◌, cond, List, [], ◌∷◌, drop, Option, Some, None, refl, ◌∙◌, arith}
use Rattle.std.specs.Prelude.{◌==◌, slice_index}
use Rattle.std.proofs.lemmas.Bool.Decides.{nat_tests}
use Rattle.two_wire.specs.Codes.{node_busy, pldm_not_ready}
use Rattle.ipmb_frame.specs.declared.message.Response.{Response}
use Rattle.ipmb_frame.specs.Grammar.{packed}
use Rattle.record_base.specs.declared.message.Asked.TheVariants.{Ipmi, Pldm}
use Rattle.record_base.specs.declared.message.Answered.{Answered}
use Rattle.model_bus.specs.Bytes.{ipmb_answers, pldm_answers}
use Rattle.model_bus.specs.Answered.{Answered as UndoAnswered}
use Rattle.model_headline.specs.Manager.{answer_in, read_in}
use Rattle.model_headline.specs.Seen.{words_of}

-- the code is one of a busy port
abbrev pub is_busy : ℕ → Bool
is_busy code = code == node_busy || code == pldm_not_ready

module _ {X : Type 0} (taken : UndoAnswered → X) (ignored : X) where
  -- what comes of an answer, if there is one
  abbrev pub of_answer : Option Answered → X
  of_answer None = ignored
  of_answer (Some a) = cond (is_busy a.code) ignored (taken (words_of a))

  -- ---- IPMB

  by_both : (a : Answered) (b c d busy : Bool) (x y : X) → cond ((b && c) && (d && not busy)) x y ≡ cond (b && c && d) (cond busy y x) y
  by_both a true true true true x y = refl
  by_both a true true true false x y = refl
  by_both a true true false busy x y = refl
  by_both a true false d busy x y = refl
  by_both a false c d busy x y = refl

  picked : (b : Bool) (a : Answered) → cond b (cond (is_busy a.code) ignored (taken (words_of a))) ignored ≡ of_answer (let none : Option Answered = None in cond b (Some a) none)
  picked true a = refl
  picked false a = refl

  pub responses_alike : (n from net_fn lun command : ℕ) (body : List ℕ) (r : Response) → lun < 4 → r.header.requester.lun < 4 → r.header.responder.lun < 4
      → cond (ipmb_answers ((4 * net_fn + lun) ∷ (4 * (n % 64) + 0) ∷ command ∷ body) (packed (r.header.net_fn + 1) r.header.requester.lun ∷ packed r.header.sequence r.header.responder.lun ∷ r.header.command ∷ r.code ∷ r.body))
      (taken (record { code = r.code; body = r.body })) ignored
      ≡ of_answer (answer_in n (Ipmi from net_fn lun command body) r)
  responses_alike n from net_fn lun command body r low one two =
      let a : Answered = record { code = r.code; body = r.body } in
      let asked : (4 * net_fn + lun) / 4 ≡ net_fn = omega (arith, low) in
      let told : (4 * (r.header.net_fn + 1) + r.header.requester.lun) / 4 ≡ r.header.net_fn + 1 = omega (arith, one) in
      let number : (4 * (n % 64) + 0) / 4 ≡ n % 64 = omega arith in
      let sequence : (4 * r.header.sequence + r.header.responder.lun) / 4 ≡ r.header.sequence = omega (arith, two) in
      let fns : (r.header.net_fn + 1 == net_fn + 1) ≡ (r.header.net_fn == net_fn) = grind (arith, nat_tests) in
      (λ i. cond (((told i == asked i + 1) && (sequence i == number i)) && ((r.header.command == command) && not (is_busy r.code))) (taken (words_of a)) ignored)
      ∙ (λ i. cond ((fns i && (r.header.sequence == n % 64)) && ((r.header.command == command) && not (is_busy r.code))) (taken (words_of a)) ignored)
      ∙ by_both a (r.header.net_fn == net_fn) (r.header.sequence == n % 64) (r.header.command == command) (is_busy r.code) (taken (words_of a)) ignored
      ∙ picked (r.header.net_fn == net_fn && r.header.sequence == n % 64 && r.header.command == command) a

  -- ---- SMBus

  by_five : (b c d e f busy : Bool) (x y : X) → cond (((b && c) && d) && ((e && f) && not busy)) x y ≡ cond (b && c && d && e && f) (cond busy y x) y
  by_five true true true true true true x y = refl
  by_five true true true true true false x y = refl
  by_five true true true true false busy x y = refl
  by_five true true true false f busy x y = refl
  by_five true true false e f busy x y = refl
  by_five true false d e f busy x y = refl
  by_five false c d e f busy x y = refl

  pub messages_alike : (n from kind command : ℕ) (body reply : List ℕ)
      → cond (pldm_answers (1 ∷ (128 + n % 32) ∷ kind ∷ command ∷ body) reply) (taken (record { code = slice_index reply 4; body = drop 5 reply })) ignored
      ≡ of_answer (read_in n (Pldm from kind command body) reply)
  messages_alike n from kind command body [] = refl
  messages_alike n from kind command body (one ∷ []) = refl
  messages_alike n from kind command body (one ∷ flags ∷ []) = refl
  messages_alike n from kind command body (one ∷ flags ∷ of_kind ∷ []) = refl
  messages_alike n from kind command body (one ∷ flags ∷ of_kind ∷ of_command ∷ []) = refl
  messages_alike n from kind command body (one ∷ flags ∷ of_kind ∷ of_command ∷ code ∷ rest) =
      let a : Answered = record { code = code; body = rest } in
      let number : (128 + n % 32) % 32 ≡ n % 32 = omega arith in
      (λ i. cond ((((one == 1) && (flags / 64 == 0)) && (flags % 32 == number i)) && (((of_kind == kind) && (of_command == command)) && not (is_busy code))) (taken (words_of a)) ignored)
      ∙ by_five (one == 1) (flags / 64 == 0) (flags % 32 == n % 32) (of_kind == kind) (of_command == command) (is_busy code) (taken (words_of a)) ignored
      ∙ picked (one == 1 && flags / 64 == 0 && flags % 32 == n % 32 && of_kind == kind && of_command == command) a

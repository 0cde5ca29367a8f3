-- The bytes of a message have no fault.
use Rattle.std.proofs.Common.{◌≡◌, ℕ, ◌+◌, ◌/◌, ◌%◌, ◌<◌, ◌≤◌, List, [], ◌∷◌, length, take, drop, refl, ap, arith, length-append, false, inl, inr, ◌⊎◌, find, None, Result, Ok, Err, IfOk}
use Rattle.std.specs.Result.{result_err}
use Rattle.std.proofs.lemmas.Bool.Decides.{nat_tests}
use Rattle.two_wire.specs.Check.{check_byte}
use Rattle.ipmb_frame.specs.declared.fault.FrameFault.{FrameFault}
use Rattle.ipmb_frame.specs.declared.fault.FrameFault.TheVariants.{Short, Long, OddAddress}
use Rattle.ipmb_frame.specs.declared.message.Msg.{Msg}
use Rattle.ipmb_frame.specs.declared.message.Msg.TheVariants as msg
use Rattle.ipmb_frame.specs.Fault.{has_fault, faults}
use Rattle.ipmb_frame.specs.Grammar.{frame, IsMessage}
use Rattle.ipmb_frame.proofs.Checked.{check_byte-checked}
use Rattle.ipmb_frame.proofs.Uniqueness.{message-one}

-- a frame of a message's shape has no fault
no_fault : (a p b q k : ℕ) (body : List ℕ) → a % 2 ≡ 0 → b % 2 ≡ 0 → length body ≤ 25 → (p / 4 % 2 ≡ 0) ⊎ (1 ≤ length body)
    → find (has_fault (frame (a ∷ p ∷ []) (b ∷ q ∷ k ∷ body))) faults ≡ None
no_fault a p b q k body even also high low =
    let bytes : List ℕ = frame (a ∷ p ∷ []) (b ∷ q ∷ k ∷ body) in
    let n : length bytes ≡ length body + 7 = omega (arith, length-append body (check_byte (b ∷ q ∷ k ∷ body) ∷ [])) in
    let short : has_fault bytes Short ≡ false = grind (arith, nat_tests) in
    let long : has_fault bytes Long ≡ false = grind (arith, nat_tests) in
    let head : check_byte (take 3 bytes) ≡ 0 = check_byte-checked (a ∷ p ∷ []) in
    let tail : check_byte (drop 3 bytes) ≡ 0 = check_byte-checked (b ∷ q ∷ k ∷ body) in
    let odd : has_fault bytes OddAddress ≡ false = grind (arith, nat_tests) in
    rw (short, long, head, tail, odd) refl

-- what is a message has no fault
pub message-no_fault : (m : Msg) (bytes : List ℕ) → IsMessage m bytes → find (has_fault bytes) faults ≡ None
message-no_fault (msg.Request r) bytes h =
    let even : r.header.net_fn % 2 ≡ 0 = h.header.even in
    let small : r.header.responder.lun < 4 = h.header.responder.lun in
    rw h.spelled (no_fault _ _ _ _ _ r.body h.header.responder.even h.header.requester.even h.fits (inl (omega arith)))
message-no_fault (msg.Response r) bytes h =
    rw h.spelled (no_fault _ _ _ _ _ (r.code ∷ r.body) h.header.requester.even h.header.responder.even (omega (arith, h.fits)) (inr (omega arith)))

-- what answers by the faults and by the grammar reads every message
pub reads_whole : (r : Result Msg FrameFault) (bytes : List ℕ) → result_err r ≡ find (has_fault bytes) faults → IfOk r (λ m. IsMessage m bytes)
    → (m : Msg) → IsMessage m bytes → r ≡ Ok m
reads_whole (Ok n) bytes fault read m h = ap Ok (message-one n m bytes read h)
reads_whole (Err f) bytes fault read m h = let none : find (has_fault bytes) faults ≡ None = message-no_fault m bytes h in cc

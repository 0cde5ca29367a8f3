-- Bytes without a fault are a message.
use Rattle.std.proofs.Common.{◌≡◌, ℕ, zero, suc, ◌-◌, ◌/◌, ◌%◌, ◌<◌, ◌≤◌, List, [], ◌∷◌, length, take, drop, get_or, refl, arith, length-drop, find, Option, Some, None, inl, inr, ◌⊎◌}
use Rattle.std.specs.Prelude.{All}
use Rattle.std.proofs.lemmas.List.{length-take}
use Rattle.std.proofs.lemmas.Bool.Decides.{nat_tests}
use Rattle.ipmb_frame.specs.declared.fault.FrameFault.{FrameFault}
use Rattle.ipmb_frame.specs.declared.message.Request.{Request}
use Rattle.ipmb_frame.specs.declared.message.Response.{Response}
use Rattle.ipmb_frame.specs.declared.message.Msg.{Msg}
use Rattle.ipmb_frame.specs.declared.message.Msg.TheVariants as msg
use Rattle.ipmb_frame.specs.Fault.{has_fault, faults, net_fn_of, HasFault, IsFaultless}
use Rattle.ipmb_frame.specs.Grammar.{IsRequest, IsResponse, IsMessage}
use Rattle.ipmb_frame.proofs.Places.{request_is, response_is}

-- what no fault rules out
pub none-faultless : (bytes : List ℕ) → find (has_fault bytes) faults ≡ None → IsFaultless bytes
none-faultless bytes none = record {
  least = grind (arith, nat_tests);
  has_code = λ odd. grind (arith, nat_tests);
  most = grind (arith, nat_tests);
  head = grind (arith, nat_tests);
  body = grind (arith, nat_tests);
  first = grind (arith, nat_tests);
  second = grind (arith, nat_tests);
}

-- each byte is below 256, and behind the last there is 0
all-small : (bytes : List ℕ) → All (λ b. b < 256) bytes → (i : ℕ) → get_or bytes i 0 < 256
all-small [] small i = omega arith
all-small (b ∷ bytes) small zero = small 0 0 (omega arith)
all-small (b ∷ bytes) small (suc i) = all-small bytes (λ k d low. small (suc k) d (omega arith)) i

-- the request that faultless bytes are
abbrev request_at : List ℕ → Request
request_at bytes = record {
  header = record {
    responder = record { address = get_or bytes 0 0; lun = get_or bytes 1 0 % 4 };
    requester = record { address = get_or bytes 3 0; lun = get_or bytes 4 0 % 4 };
    net_fn = get_or bytes 1 0 / 4;
    sequence = get_or bytes 4 0 / 4;
    command = get_or bytes 5 0;
  };
  body = take (length bytes - 1 - 6) (drop 6 bytes);
}

-- the response that faultless bytes are
abbrev response_at : List ℕ → Response
response_at bytes = record {
  header = record {
    responder = record { address = get_or bytes 3 0; lun = get_or bytes 4 0 % 4 };
    requester = record { address = get_or bytes 0 0; lun = get_or bytes 1 0 % 4 };
    net_fn = get_or bytes 1 0 / 4 - 1;
    sequence = get_or bytes 4 0 / 4;
    command = get_or bytes 5 0;
  };
  code = get_or (take (length bytes - 1 - 6) (drop 6 bytes)) 0 0;
  body = drop 1 (take (length bytes - 1 - 6) (drop 6 bytes));
}

-- a list with an element is its first and the others
first_and_others : (xs : List ℕ) → 0 < length xs → get_or xs 0 0 ∷ drop 1 xs ≡ xs
first_and_others (x ∷ xs) some = refl
first_and_others [] some = absurd (omega arith)

faultless-request : (bytes : List ℕ) → IsFaultless bytes → ((i : ℕ) → get_or bytes i 0 < 256) → net_fn_of bytes % 2 ≡ 0 → IsRequest (request_at bytes) bytes
faultless-request bytes faultless small even =
    let first : get_or bytes 0 0 % 2 ≡ 0 = faultless.first in
    let second : get_or bytes 3 0 % 2 ≡ 0 = faultless.second in
    let function : get_or bytes 1 0 / 4 % 2 ≡ 0 = even in
    request_is bytes (request_at bytes)
    (record {
      responder = record { address = small 0; even = first; lun = omega arith };
      requester = record { address = small 3; even = second; lun = omega arith };
      net_fn = omega (arith, small 1);
      even = function;
      sequence = omega (arith, small 4);
    })
    faultless small refl (omega arith) refl (omega arith) refl refl

faultless-response : (bytes : List ℕ) → IsFaultless bytes → ((i : ℕ) → get_or bytes i 0 < 256) → net_fn_of bytes % 2 ≡ 1 → IsResponse (response_at bytes) bytes
faultless-response bytes faultless small odd =
    let first : get_or bytes 0 0 % 2 ≡ 0 = faultless.first in
    let second : get_or bytes 3 0 % 2 ≡ 0 = faultless.second in
    let function : get_or bytes 1 0 / 4 % 2 ≡ 1 = odd in
    let long : 8 ≤ length bytes = faultless.has_code odd in
    let some : 0 < length (take (length bytes - 1 - 6) (drop 6 bytes)) = omega (arith, length-take (length bytes - 1 - 6) (drop 6 bytes), length-drop 6 bytes) in
    response_is bytes (response_at bytes)
    (record {
      responder = record { address = small 3; even = second; lun = omega arith };
      requester = record { address = small 0; even = first; lun = omega arith };
      net_fn = omega (arith, small 1);
      even = omega arith;
      sequence = omega (arith, small 4);
    })
    faultless small refl (omega arith) refl (omega arith) refl (first_and_others (take (length bytes - 1 - 6) (drop 6 bytes)) some)

-- faultless bytes are a message
faultless-message : (bytes : List ℕ) → IsFaultless bytes → ((i : ℕ) → get_or bytes i 0 < 256) → (odd : ℕ) → net_fn_of bytes % 2 ≡ odd → (m : Msg) × IsMessage m bytes
faultless-message bytes faultless small zero even = (msg.Request (request_at bytes), faultless-request bytes faultless small even)
faultless-message bytes faultless small (suc zero) odd = (msg.Response (response_at bytes), faultless-response bytes faultless small odd)
faultless-message bytes faultless small (suc (suc n)) is = absurd (omega arith)

-- bytes have a fault or are a message
pub fault-or-message : (bytes : List ℕ) → All (λ b. b < 256) bytes → HasFault bytes ⊎ ((m : Msg) × IsMessage m bytes)
fault-or-message bytes small = by_fault (find (has_fault bytes) faults) refl
  where
    by_fault : (first : Option FrameFault) → find (has_fault bytes) faults ≡ first → HasFault bytes ⊎ ((m : Msg) × IsMessage m bytes)
    by_fault (Some fault) is = inl (fault, is)
    by_fault None is = inr (faultless-message bytes (none-faultless bytes is) (all-small bytes small) (net_fn_of bytes % 2) refl)

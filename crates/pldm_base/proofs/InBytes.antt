-- The request and the reply in bytes are what the grammar says.
use Rattle.std.proofs.Common.{◌≡◌, ℕ, ◌+◌, ◌*◌, ◌/◌, ◌%◌, ◌==◌, ◌&&◌, Bool, true, false, ◌≤◌, nat_le, cond, List, [], ◌∷◌, length, Some, None, refl, ◌∙◌, ap, subst, arith}
use Rattle.std.proofs.lemmas.Bool.Decides.{nat_tests}
use Rattle.pldm_base.specs.declared.message.PldmRequest.{PldmRequest}
use Rattle.pldm_base.specs.declared.message.PldmReply.{PldmReply}
use Rattle.pldm_base.specs.Message.{IsRequest, IsReply, request_in, reply_in, header_in}

-- where one of two comes, the test holds
comes_of : {X : Type 0} (b : Bool) (x y : X) → cond b (Some x) None ≡ Some y → (b ≡ true) × (x ≡ y)
comes_of true x y h = (refl, cc)
comes_of false x y h = absurd cc

comes : {X : Type 0} (b : Bool) (x y : X) → b ≡ true → x ≡ y → cond b (Some x) None ≡ Some y
comes b x y h e = rw h (ap Some e)

pub request-in : (r : PldmRequest) (bytes : List ℕ) → request_in bytes ≡ Some r → IsRequest r bytes
request-in r [] h = absurd cc
request-in r (a ∷ []) h = absurd cc
request-in r (a ∷ b ∷ []) h = absurd cc
request-in r (a ∷ b ∷ c ∷ body) h =
    let parts : ((a / 64 == 2 && b / 64 == 0 && nat_le (length body) 252) ≡ true) × (record { header = header_in a b c; body = body } ≡ r) =
    comes_of (a / 64 == 2 && b / 64 == 0 && nat_le (length body) 252) (record { header = header_in a b c; body = body }) r h in
    let test = parts.0 in
    let flags : a / 64 ≡ 2 = grind (arith, nat_tests) in
    let version : b / 64 ≡ 0 = grind (arith, nat_tests) in
    let fits : length body ≤ 252 = grind (arith, nat_tests) in
    let first : a ≡ 128 * 1 + 32 * (a / 32 % 2) + a % 32 = omega arith in
    subst (λ (q : PldmRequest). IsRequest q (a ∷ b ∷ c ∷ body)) parts.1 (
      a / 32 % 2,
      record {
        bit = omega arith;
        header = record { instance = omega arith; pldm_type = omega arith };
        fits = fits;
        spelled = ap (λ n. n ∷ b ∷ c ∷ body) first;
      },
    )

pub request-in_back : (r : PldmRequest) (bytes : List ℕ) → IsRequest r bytes → request_in bytes ≡ Some r
request-in_back r bytes (ignored, h) =
    let first : ℕ = 128 * 1 + 32 * ignored + r.header.instance in
    let flags : (first / 64 == 2) ≡ true = grind (arith, nat_tests, h.bit, h.header.instance) in
    let version : (r.header.pldm_type / 64 == 0) ≡ true = grind (arith, nat_tests, h.header.pldm_type) in
    let fits : nat_le (length r.body) 252 ≡ true = grind (arith, nat_tests, h.fits) in
    let instance : first % 32 ≡ r.header.instance = omega (arith, h.bit, h.header.instance) in
    ap request_in h.spelled
    ∙ comes (first / 64 == 2 && r.header.pldm_type / 64 == 0 && nat_le (length r.body) 252) (record { header = header_in first r.header.pldm_type r.header.command; body = r.body }) r
    (rw (flags, version, fits) refl)
    (λ i. record { header = record { instance = instance i; pldm_type = r.header.pldm_type; command = r.header.command }; body = r.body })

pub reply-in : (r : PldmReply) (bytes : List ℕ) → reply_in bytes ≡ Some r → IsReply r bytes
reply-in r [] h = absurd cc
reply-in r (a ∷ []) h = absurd cc
reply-in r (a ∷ b ∷ []) h = absurd cc
reply-in r (a ∷ b ∷ c ∷ []) h = absurd cc
reply-in r (a ∷ b ∷ c ∷ d ∷ body) h =
    let parts : ((a / 64 == 0 && b / 64 == 0 && nat_le (length body) 251) ≡ true) × (record { header = header_in a b c; code = d; body = body } ≡ r) =
    comes_of (a / 64 == 0 && b / 64 == 0 && nat_le (length body) 251) (record { header = header_in a b c; code = d; body = body }) r h in
    let test = parts.0 in
    let flags : a / 64 ≡ 0 = grind (arith, nat_tests) in
    let version : b / 64 ≡ 0 = grind (arith, nat_tests) in
    let fits : length body ≤ 251 = grind (arith, nat_tests) in
    let first : a ≡ 128 * 0 + 32 * (a / 32 % 2) + a % 32 = omega arith in
    subst (λ (q : PldmReply). IsReply q (a ∷ b ∷ c ∷ d ∷ body)) parts.1 (
      a / 32 % 2,
      record {
        bit = omega arith;
        header = record { instance = omega arith; pldm_type = omega arith };
        fits = fits;
        spelled = ap (λ n. n ∷ b ∷ c ∷ d ∷ body) first;
      },
    )

pub reply-in_back : (r : PldmReply) (bytes : List ℕ) → IsReply r bytes → reply_in bytes ≡ Some r
reply-in_back r bytes (ignored, h) =
    let first : ℕ = 128 * 0 + 32 * ignored + r.header.instance in
    let flags : (first / 64 == 0) ≡ true = grind (arith, nat_tests, h.bit, h.header.instance) in
    let version : (r.header.pldm_type / 64 == 0) ≡ true = grind (arith, nat_tests, h.header.pldm_type) in
    let fits : nat_le (length r.body) 251 ≡ true = grind (arith, nat_tests, h.fits) in
    let instance : first % 32 ≡ r.header.instance = omega (arith, h.bit, h.header.instance) in
    ap reply_in h.spelled
    ∙ comes (first / 64 == 0 && r.header.pldm_type / 64 == 0 && nat_le (length r.body) 251) (record { header = header_in first r.header.pldm_type r.header.command; code = r.code; body = r.body }) r
    (rw (flags, version, fits) refl)
    (λ i. record { header = record { instance = instance i; pldm_type = r.header.pldm_type; command = r.header.command }; code = r.code; body = r.body })

-- The first of the requests that carry a request out.
use Rattle.std.proofs.Common.{◌≡◌, ℕ, ◌*◌, nat_lt, Bool, true, false, not, ◌==◌, ◌&&◌, List, length, if◌then◌else◌, Some, None, refl, sym, ◌∙◌, ap, arith}
use Rattle.std.specs.Option.{option_map}
use Rattle.std.proofs.lemmas.Bool.Decides.{nat_tests}
use Rattle.record_base.specs.declared.message.Asked.{Asked}
use Rattle.record_base.specs.declared.message.Asked.TheVariants.{Ipmi, Pldm}
use Rattle.record_base.specs.Requests.{byte_at}
use Rattle.record_base.specs.MaskLaws.{both_true}
use Rattle.pldm_base.specs.Parts.{part_length, goes_whole}
use Rattle.bios_attr.specs.EntryParts.{bios, set_current_value, start_and_end, entry_in, goes_in_parts, set_part, part_at, first_request, request_at}

-- data that go in parts have a second one
second_part_at : (body : List ℕ) → goes_in_parts body ≡ true → part_at body 1 ≡ Some (set_part (entry_in body) part_length)
second_part_at body goes =
    let long : not (goes_whole (entry_in body)) ≡ true = (both_true (byte_at body 4 == start_and_end) (not (goes_whole (entry_in body))) goes).1 in
    let some : nat_lt (part_length * 1) (length (entry_in body)) ≡ true = grind (arith, nat_tests) in
    ap (λ (b : Bool). if b then Some (set_part (entry_in body) part_length) else None) some

-- so a request with no second one goes alone
pub goes_alone : (asked : Asked) → request_at asked 1 ≡ None → first_request asked ≡ asked
goes_alone (Ipmi from net_fn lun command body) none = refl
goes_alone (Pldm from kind command body) none = at (kind == bios && command == set_current_value) (goes_in_parts body) refl none where
  at : (sets goes : Bool) → goes_in_parts body ≡ goes
      → (if sets && goes then option_map (Pldm from kind command) (part_at body 1) else None) ≡ None
      → Pldm from kind command (if sets && goes then set_part (entry_in body) 0 else body) ≡ Pldm from kind command body
  at true true is made =
      let both : Some (Pldm from kind command (set_part (entry_in body) part_length)) ≡ None = sym (ap (option_map (Pldm from kind command)) (second_part_at body is)) ∙ made in
      cc both
  at true false is made = refl
  at false goes is made = refl

first_part_at : (body : List ℕ) → goes_in_parts body ≡ true → part_at body 0 ≡ Some (set_part (entry_in body) 0)
first_part_at body goes =
    let long : not (goes_whole (entry_in body)) ≡ true = (both_true (byte_at body 4 == start_and_end) (not (goes_whole (entry_in body))) goes).1 in
    let some : nat_lt (part_length * 0) (length (entry_in body)) ≡ true = grind (arith, nat_tests) in
    ap (λ (b : Bool). if b then Some (set_part (entry_in body) 0) else None) some

-- the one of place 0 is the first
pub begins_at : (asked : Asked) → request_at asked 0 ≡ Some (first_request asked)
begins_at (Ipmi from net_fn lun command body) = refl
begins_at (Pldm from kind command body) = at (kind == bios && command == set_current_value) (goes_in_parts body) refl where
  at : (sets goes : Bool) → goes_in_parts body ≡ goes
      → (if sets && goes then option_map (Pldm from kind command) (part_at body 0) else Some (Pldm from kind command body))
      ≡ Some (Pldm from kind command (if sets && goes then set_part (entry_in body) 0 else body))
  at true true is = ap (option_map (Pldm from kind command)) (first_part_at body is)
  at true false is = refl
  at false goes is = refl

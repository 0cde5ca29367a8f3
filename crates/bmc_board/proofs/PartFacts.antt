-- The parts of a Set: the codes that refuse one, and what its end leaves.
use Rattle.std.proofs.Common.{◌≡◌, ◌≢◌, ℕ, ◌<◌, nat_le, nat_lt, ◌+◌, List, length, Option, Some, None, Result, Ok, Err, Bool, true, false, not, if◌then◌else◌, ◌==◌, ◌&&◌, refl, arith}
use Rattle.std.proofs.lemmas.Bool.Decides.{nat_tests}
use Rattle.two_wire.specs.Codes.{success, pldm_error, pldm_invalid_data, pldm_invalid_length, pldm_invalid_attribute}
use Rattle.pldm_base.specs.Parts.{part_length}
use Rattle.record_base.specs.Meaning.{IsRefusal}
use Rattle.bios_attr.specs.BiosAttribute.{is_settable}
use Rattle.bios_attr.specs.declared.bios_attribute.AttributeLimits.{AttributeLimits}
use Rattle.record_kinds.specs.Entries.{text_length, whole_length, op_of, begins_string, allows_length, first_fault, middle_fault, last_fault}
use Rattle.record_kinds.specs.Stagings.{StagedParts, most_stagings, staged_by, without, or_else, room_fault, start_fault, later_fault, add_fault, end_fault, unless, joined, start_outcome, add_outcome, end_outcome}
use Rattle.bmc_board.specs.State.{State}
use Rattle.bmc_board.specs.AttributeParts.{with_stagings, unstaged}
use Rattle.bmc_board.specs.Answer.{staged}
use Rattle.bmc_board.specs.AnyAnswer.{IsCode}
use Rattle.bmc_board.proofs.Rightly.{is_code, both, code_of}

-- ---- the codes are ones that refuse

-- a byte that is neither success nor a busy controller's code
abbrev is_refusal : ℕ → Bool
is_refusal code = (nat_lt 0 code && nat_lt code 256) && is_code code

below : (m n : ℕ) → nat_lt m n ≡ true → m < n
below m n h = grind (arith, nat_tests)

refusal_of : (code : ℕ) → is_refusal code ≡ true → IsRefusal code
refusal_of code e =
    let parts = both _ _ e in
    let sizes = both _ _ parts.0 in
    let is : IsCode code = code_of code parts.1 in
    record { is_fault = below _ _ sizes.0; is_byte = below _ _ sizes.1; not_busy = is.not_busy; is_ready = is.is_ready }

-- a code that refuses is such a code
abbrev pub Refuses : {X : Type 0} → Result X ℕ → Type 0
Refuses (Ok x) = Unit {0}
Refuses (Err code) = IsRefusal code

abbrev IsFault : Option ℕ → Type 0
IsFault (Some code) = IsRefusal code
IsFault None = Unit {0}

unless_code : {X : Type 0} (fault : Option ℕ) (x : X) → IsFault fault → Refuses (unless fault x)
unless_code (Some code) x is = is
unless_code None x is = tt

either : (b : Bool) (code : ℕ) (rest : Option ℕ) → IsRefusal code → IsFault rest → IsFault (if b then Some code else rest)
either true code rest is other = is
either false code rest is other = other

data_is : IsRefusal pldm_invalid_data
data_is = refusal_of pldm_invalid_data refl

length_is : IsRefusal pldm_invalid_length
length_is = refusal_of pldm_invalid_length refl

both_codes : (one other : Option ℕ) → IsFault one → IsFault other → IsFault (or_else one other)
both_codes (Some code) other is later = is
both_codes None other is later = later

first_is : (limits : AttributeLimits) (entry : List ℕ) → IsFault (first_fault limits entry)
first_is limits entry =
    either (not (is_settable limits (op_of entry))) pldm_invalid_data _ data_is
    (either (not (begins_string entry)) pldm_invalid_length _ length_is (either (not (allows_length limits.range (text_length entry))) pldm_invalid_data None data_is tt))

start_is : (limits : Option AttributeLimits) (stagings : StagedParts) (from : ℕ) (entry : List ℕ) → IsFault (start_fault limits stagings from entry)
start_is None stagings from entry = refusal_of pldm_invalid_attribute refl
start_is (Some limits) stagings from entry =
    both_codes (first_fault limits entry) (room_fault stagings from) (first_is limits entry) (either (nat_le most_stagings (length (without from stagings))) pldm_error None (refusal_of pldm_error refl) tt)

middle_is : (staged : List ℕ) (handle : ℕ) (bytes : List ℕ) → IsFault (middle_fault staged handle bytes)
middle_is staged handle bytes =
    either (not (handle == length staged)) pldm_invalid_data _ data_is
    (either (not (length bytes == part_length)) pldm_invalid_length _ length_is (either (nat_le (whole_length staged) (length staged + length bytes)) pldm_invalid_length None length_is tt))

last_is : (staged : List ℕ) (handle : ℕ) (bytes : List ℕ) → IsFault (last_fault staged handle bytes)
last_is staged handle bytes =
    either (not (handle == length staged)) pldm_invalid_data _ data_is
    (either (not (length staged + length bytes == whole_length staged)) pldm_invalid_length _ length_is (either (nat_lt part_length (length bytes)) pldm_invalid_length None length_is tt))

later_is : (fault : List ℕ → Option ℕ) (staged : Option (List ℕ)) → ((entry : List ℕ) → IsFault (fault entry)) → IsFault (later_fault fault staged)
later_is fault None is = data_is
later_is fault (Some entry) is = is entry

pub start_code : (limits : Option AttributeLimits) (stagings : StagedParts) (from : ℕ) (entry : List ℕ) → Refuses (start_outcome limits stagings from entry)
start_code limits stagings from entry = unless_code (start_fault limits stagings from entry) entry (start_is limits stagings from entry)

pub add_code : (stagings : StagedParts) (from handle : ℕ) (bytes : List ℕ) → Refuses (add_outcome stagings from handle bytes)
add_code stagings from handle bytes =
    unless_code (add_fault stagings from handle bytes) (joined (staged_by from stagings) bytes) (later_is (λ staged. middle_fault staged handle bytes) (staged_by from stagings) (λ staged. middle_is staged handle bytes))

pub end_code : (stagings : StagedParts) (from handle : ℕ) (bytes : List ℕ) → Refuses (end_outcome stagings from handle bytes)
end_code stagings from handle bytes =
    unless_code (end_fault stagings from handle bytes) (op_of (joined (staged_by from stagings) bytes)) (later_is (λ staged. last_fault staged handle bytes) (staged_by from stagings) (λ staged. last_is staged handle bytes))

-- ---- what parts leave

-- a part that isn't the last leaves the records
pub staged_records : (from : ℕ) (before : State) (r : Result (List ℕ) ℕ) → (staged from before r).1.records ≡ before.records
staged_records from before (Ok entry) = refl
staged_records from before (Err code) = refl

same_code : (code : ℕ) → (code == success) ≡ true → code ≡ success
same_code code e = grind (arith, nat_tests)

-- a refusal leaves what is staged
left_where : (b : Bool) (code : ℕ) (ended after : State) → (code == success) ≡ b → code ≢ success → (if b then ended else after) ≡ after
left_where true code ended after e fault = absurd (fault (same_code code e))
left_where false code ended after e fault = refl

pub not_unstaged : (from code : ℕ) (after : State) → code ≢ success → unstaged from code after ≡ after
not_unstaged from code after fault = left_where (code == success) code (with_stagings after (without from after.activity.stagings)) after refl fault

-- the end of a staging leaves the records
records_where : (b : Bool) (after : State) (stagings : StagedParts) → (if b then with_stagings after stagings else after).records ≡ after.records
records_where true after stagings = refl
records_where false after stagings = refl

pub unstaged_records : (from code : ℕ) (after : State) → (unstaged from code after).records ≡ after.records
unstaged_records from code after = records_where (code == success) after (without from after.activity.stagings)

-- What is written of bytes is read again, and the lines of requests.
use Rattle.std.proofs.Common.{◌≡◌, ◌<◌, ◌≤◌, ◌+◌, ◌*◌, ◌%◌, ℕ, List, [], ◌∷◌, ◌++◌, length, arith, refl, sym, ◌∙◌, ap, subst, append_assoc, Option, Some, None, Result, Ok, Err, is_ok, if◌then◌else◌, codes}
use Rattle.std.specs.List.{flat_map}
use Rattle.std.specs.Option.{option_map}
use Rattle.std.specs.Prelude.{IfSome, IfNone, OnOk}
use Rattle.std.proofs.lemmas.Fmt.{decimal_digit}
use Rattle.hex.specs.Hex.{IsBytes, encode_upper}
use Rattle.hex.proofs.HexLemmas.{decode_of-encode_upper}
use Rattle.text_lines.specs.Cuts.{ended}
use Rattle.two_wire.specs.declared.Bus.TheVariants.{Ipmb, Smbus}
use Rattle.record_base.specs.declared.op.Op.{Op}
use Rattle.record_base.specs.declared.message.Asked.{Asked}
use Rattle.record_base.specs.declared.message.Asked.TheVariants.{Ipmi, Pldm}
use Rattle.record_kinds.specs.Limits.{set_asked, words as kinds}
use Rattle.undo_plans.specs.Fitting.{most_of}
use Rattle.undo_plans.specs.Requests.{meant}
use Rattle.undo_plans.specs.declared.undo_request.UndoRequest.{UndoRequest}
use Rattle.bios_attr.specs.EntryParts.{with_body}
use Rattle.text_lines.specs.UndoText.{name_of}
use Rattle.text_journal.specs.JournalLines.{number_line, IsBytesLine, IsRequestLine}
use Rattle.text_journal.specs.JournalSteps.{head_in, head_of}
use Rattle.text_journal.specs.Written.{bytes_line, request_line, step_line, waiting_lines}

pub written_bytes : (words bytes : List ℕ) → IsBytes bytes → IsBytesLine words (bytes_line words bytes) bytes
written_bytes words bytes small = record { digits = encode_upper bytes; spelt = refl; read = decode_of-encode_upper bytes small }

-- ---- steps

with_head : (asked : Asked) (body : List ℕ) → bytes_line (name_of (head_in asked).bus) ((head_in asked).first ∷ (head_in asked).command ∷ body) ≡ request_line (with_body asked body)
with_head (Ipmi from net_fn lun command old) body = refl
with_head (Pldm from kind command old) body = refl

-- the line of a step's request is the step's
pub step_spelt : (op : Op) → bytes_line (name_of (head_of op).bus) ((head_of op).first ∷ (head_of op).command ∷ kinds.set_data op) ≡ step_line op
step_spelt op = with_head (set_asked op) (kinds.set_data op)

-- ---- requests that undo

pub ipmb_written : (asked : Asked) (from net_fn lun command : ℕ) (body : List ℕ) (n l : ℕ) (b : List ℕ) → asked ≡ Ipmi from net_fn lun command body → n ≡ net_fn → l ≡ lun → b ≡ body → from ≡ 0 → n < 64 → n % 2 ≡ 0 → l < 4 → length b ≤ 25
    → IsBytesLine (name_of Ipmb) (bytes_line (name_of Ipmb) ((n * 4 + l) ∷ command ∷ b)) ((n * 4 + l) ∷ command ∷ b) → IsRequestLine (request_line asked) asked
ipmb_written asked from net_fn lun command body n l b is same unit whole none low even small short line =
    let it : Asked = Ipmi from n l command b in
    let all : asked ≡ it = is ∙ (λ i. Ipmi from (sym same i) (sym unit i) command (sym whole i)) in
    subst (λ (x : Asked). IsRequestLine (request_line x) x) (sym all) (record { is = line; request = (none, low, even, small, short) })

pub smbus_written : (asked : Asked) (from kind command : ℕ) (body : List ℕ) (n : ℕ) (b : List ℕ) → asked ≡ Pldm from kind command body → n ≡ kind → b ≡ body → from ≡ 0 → n < 64 → length body ≤ most_of (Pldm from kind command body)
    → IsBytesLine (name_of Smbus) (bytes_line (name_of Smbus) (n ∷ command ∷ b)) (n ∷ command ∷ b) → IsRequestLine (request_line asked) asked
smbus_written asked from kind command body n b is same whole none low short line =
    let it : Asked = Pldm from n command b in
    let all : asked ≡ it = is ∙ (λ i. Pldm from (sym same i) command (sym whole i)) in
    let fits : length b ≤ most_of (Pldm from n command b) = subst (λ (x : ℕ × List ℕ). length x.1 ≤ most_of (Pldm from x.0 command x.1)) (λ i. (sym same i, sym whole i)) short in
    subst (λ (x : Asked). IsRequestLine (request_line x) x) (sym all) (record { is = line; request = (none, low, fits) })

-- ---- the one that waits

nil_behind : {T : Type 0} (xs : List T) → xs ++ [] ≡ xs
nil_behind [] = refl
nil_behind {T} (x ∷ xs) = ap (λ (l : List T). x ∷ l) (nil_behind xs)

count_line : (n : ℕ) → n < 10 → codes "waiting " ++ ((48 + n) ∷ 10 ∷ []) ≡ ended (number_line (codes "waiting ") n)
count_line n low = ap (λ (d : List ℕ). codes "waiting " ++ (d ++ 10 ∷ [])) (sym (decimal_digit n low))

-- what is so where all went well is so on Ok
pub on_ok : {T E : Type 0} (result : Result T E) (new kept other : List ℕ) → new ≡ (if is_ok result then kept else other) → OnOk result (new ≡ kept)
on_ok (Ok value) new kept other is = is
on_ok (Err fault) new kept other is = tt

pub none_waits : (waiting : Option UndoRequest) → waiting ≡ None → codes "waiting 0\n" ≡ flat_map ended (waiting_lines (option_map meant waiting))
none_waits waiting none =
    let first : codes "waiting 0\n" ≡ ended (number_line (codes "waiting ") 0) = count_line 0 (omega arith) in
    first ∙ sym (nil_behind (ended (number_line (codes "waiting ") 0))) ∙ ap (λ (w : Option UndoRequest). flat_map ended (waiting_lines (option_map meant w))) (sym none)

pub some_waits : (waiting : Option UndoRequest) (request : UndoRequest) (old mid : List ℕ) → waiting ≡ Some request → mid ≡ old ++ codes "waiting 1\n"
    → mid ++ ended (request_line (meant request)) ≡ old ++ flat_map ended (waiting_lines (option_map meant waiting))
some_waits waiting request old mid some first =
    let line = ended (request_line (meant request)) in
    let count : codes "waiting 1\n" ≡ ended (number_line (codes "waiting ") 1) = count_line 1 (omega arith) in
    ap (λ (l : List ℕ). l ++ line) first ∙ append_assoc old (codes "waiting 1\n") line ∙ (λ i. old ++ (count i ++ sym (nil_behind line) i))
    ∙ ap (λ (w : Option UndoRequest). old ++ flat_map ended (waiting_lines (option_map meant w))) (sym some)

-- what waits is what the journal says that it does
pub waits_so : (found : Option UndoRequest) (kept : Option Asked) → IfSome found (λ request. kept ≡ Some (meant request)) → IfNone found (kept ≡ None) → option_map meant found ≡ kept
waits_so (Some request) kept there missing = sym there
waits_so None kept there missing = sym missing

-- One line more.
use Rattle.std.proofs.Common.{◌≡◌, ◌∙◌, ℕ, zero, suc, ◌+◌, List, [], ◌∷◌, ◌++◌, take, Option, Some, None, codes, refl, sym, ap, add-zero, add-one, arith}
use Rattle.std.specs.Prelude.{slice_get}
use Rattle.std.proofs.lemmas.List.{append-nil, append_assoc}
use Rattle.two_wire.specs.declared.Bus.{Bus}
use Rattle.record_base.specs.declared.key.Key.{Key}
use Rattle.record_base.specs.declared.op.Op.{Op}
use Rattle.bmc_core.specs.Wires.{bus_of}
use Rattle.record_kinds.specs.Limits.{get_asked, key_of}
use Rattle.record_words.specs.declared.in_words.InWords.{InWords}
use Rattle.record_words.specs.declared.parts.Way.TheVariants.{There}
use Rattle.record_words.specs.NameWords.{record_words}
use Rattle.record_words.specs.OpWords.{op_words, words_of}
use Rattle.report_words.specs.CodeNames.{code_words}
use Rattle.report_words.specs.BoardNames.{GivenNames}
use Rattle.bmc_lab.specs.declared.finding.Finding.{Finding}
use Rattle.bmc_lab.specs.declared.finding.Finding.TheVariants.{GetRefused, Refused}
use Rattle.bmc_lab.specs.FindingWords.{finding_line, finding_lines, finding_told}

none_there : {A : Type 0} (x : A) → (let n : Option A = None in n) ≡ Some x → ⊥
none_there x is = cc is

pub same_there : {A : Type 0} (x y : A) → (let s : Option A = Some x in s) ≡ Some y → x ≡ y
same_there x y is = cc is

-- the words of a refusal, of the operation that stands at the step's place
pub lacks_alike : (it op : Op) (key : Key) (code : ℕ) (bus : Bus) (told : ℕ) → it ≡ op → key ≡ key_of it → bus ≡ bus_of (get_asked key) → told ≡ code
    → record_words key ++ (codes ": the board hasn't it (" ++ (code_words bus told ++ codes ")")) ≡ finding_told op (GetRefused code)
lacks_alike it op key code bus told same is on coded =
    let at : key ≡ key_of op = is ∙ ap key_of same in
    let by : bus ≡ bus_of (get_asked (key_of op)) = on ∙ ap (λ (k : Key). bus_of (get_asked k)) at in
    λ i. record_words (at i) ++ (codes ": the board hasn't it (" ++ (code_words (by i) (coded i) ++ codes ")"))

pub refused_alike : (it op : Op) (key : Key) (words : InWords) (code : ℕ) (bus : Bus) (told : ℕ) → it ≡ op → key ≡ key_of it → words_of words ≡ op_words There it None
    → bus ≡ bus_of (get_asked key) → told ≡ code
    → words_of words ++ (codes ": would be refused (" ++ (code_words bus told ++ codes ")")) ≡ finding_told op (Refused code)
refused_alike it op key words code bus told same is said on coded =
    let at : key ≡ key_of op = is ∙ ap key_of same in
    let by : bus ≡ bus_of (get_asked (key_of op)) = on ∙ ap (λ (k : Key). bus_of (get_asked k)) at in
    let of : words_of words ≡ op_words There op None = said ∙ ap (λ (o : Op). op_words There o None) same in
    λ i. of i ++ (codes ": would be refused (" ++ (code_words (by i) (coded i) ++ codes ")"))

-- without findings there are no lines
no_lines : (names : GivenNames) (name : List ℕ) (place : ℕ) (steps : List Op) → finding_lines names name place steps [] ≡ []
no_lines names name place [] = refl
no_lines names name place (step ∷ steps) = refl

-- behind the lines of the findings before it
pub lines_more : (names : GivenNames) (name : List ℕ) (first : ℕ) (steps : List Op) (findings : List Finding) (place : ℕ) (op : Op) (finding : Finding)
    → slice_get steps place ≡ Some op → slice_get findings place ≡ Some finding
    → finding_lines names name first steps (take (suc place) findings) ≡ finding_lines names name first steps (take place findings) ++ finding_line names name (first + place) op finding
lines_more names name first [] findings place op finding at is = absurd (none_there op at)
lines_more names name first (step ∷ steps) [] place op finding at is = absurd (none_there finding is)
lines_more names name first (step ∷ steps) (found ∷ findings) zero op finding at is =
    let line = finding_line names name first step found in
    let place : first ≡ first + 0 = sym (add-zero first) in
    ap (λ (l : List ℕ). line ++ l) (no_lines names name (first + 1) steps) ∙ append-nil line
    ∙ (λ i. finding_line names name (place i) (same_there step op at i) (same_there found finding is i))
lines_more names name first (step ∷ steps) (found ∷ findings) (suc place) op finding at is =
    let line = finding_line names name first step found in
    let before = finding_lines names name (first + 1) steps (take place findings) in
    let count : (first + 1) + place ≡ first + suc place = omega arith in
    ap (λ (l : List ℕ). line ++ l) (lines_more names name (first + 1) steps findings place op finding at is)
    ∙ sym (append_assoc line before (finding_line names name ((first + 1) + place) op finding))
    ∙ ap (λ (n : ℕ). (line ++ before) ++ finding_line names name n op finding) count

-- the text has one line more
pub next_line : (old now grown : List ℕ) (names : GivenNames) (name : List ℕ) (steps : List Op) (findings : List Finding) (place : ℕ) (op : Op) (finding : Finding)
    → slice_get steps place ≡ Some op → slice_get findings place ≡ Some finding → now ≡ old ++ finding_lines names name 0 steps (take place findings)
    → grown ≡ now ++ finding_line names name place op finding → grown ≡ old ++ finding_lines names name 0 steps (take (place + 1) findings)
next_line old now grown names name steps findings place op finding at is before here =
    let lines = finding_lines names name 0 steps (take place findings) in
    let line = finding_line names name place op finding in
    let count : 0 + place ≡ place = omega arith in
    let more : finding_lines names name 0 steps (take (suc place) findings) ≡ lines ++ line =
    lines_more names name 0 steps findings place op finding at is ∙ ap (λ (n : ℕ). lines ++ finding_line names name n op finding) count in
    here ∙ ap (λ (l : List ℕ). l ++ line) before ∙ append_assoc old lines line ∙ ap (λ (l : List ℕ). old ++ l) (sym more)
    ∙ ap (λ (n : ℕ). old ++ finding_lines names name 0 steps (take n findings)) (sym (add-one place))

-- a text without a line
pub first_line : (old : List ℕ) (names : GivenNames) (name : List ℕ) (steps : List Op) → old ≡ old ++ finding_lines names name 0 steps []
first_line old names name steps = sym (ap (λ (l : List ℕ). old ++ l) (no_lines names name 0 steps) ∙ append-nil old)

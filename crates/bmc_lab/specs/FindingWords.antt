-- What steps meet on a board, in words.
use Rattle.std.specs.Prelude.{ℕ, ◌+◌, List, [], ◌∷◌, ◌++◌, None, codes}
use Rattle.std.specs.Fmt.{decimal}
use Rattle.record_base.specs.declared.key.Key.{Key}
use Rattle.record_base.specs.declared.op.Op.{Op}
use Rattle.bmc_core.specs.Wires.{bus_of}
use Rattle.record_kinds.specs.Limits.{key_of, get_asked, inverse}
use Rattle.record_words.specs.declared.parts.Way.TheVariants.{There}
use Rattle.record_words.specs.NameWords.{record_words}
use Rattle.record_words.specs.OpWords.{op_words}
use Rattle.report_words.specs.CodeNames.{code_words}
use Rattle.report_words.specs.BoardNames.{GivenNames, named_told}
use Rattle.bmc_lab.specs.declared.finding.Finding.{Finding}
use Rattle.bmc_lab.specs.declared.finding.Finding.TheVariants.{GetRefused, NotRestorable, Refused, Done}

-- a code that refuses a request on the record, by its name
abbrev pub refusal_words : Key → (code : ℕ) → List ℕ
refusal_words key code = code_words (bus_of (get_asked key)) code

-- what a step meets, by the number of its record's sensor or attribute
abbrev pub finding_told : Op → Finding → List ℕ
finding_told op (GetRefused code) = record_words (key_of op) ++ (codes ": the board hasn't it (" ++ (refusal_words (key_of op) code ++ codes ")"))
finding_told op NotRestorable = record_words (key_of op) ++ codes ": can't be taken back"
finding_told op (Refused code) = op_words There op None ++ (codes ": would be refused (" ++ (refusal_words (key_of op) code ++ codes ")"))
finding_told op (Done shown) = op_words There op (inverse op shown.items)

-- what it meets, with the name that the board gives that sensor or attribute
abbrev pub finding_words : GivenNames → Op → Finding → List ℕ
finding_words names op finding = named_told names (key_of op) (finding_told op finding)

-- the line of the step of this place, of the plan of this name, on a board that gives these names
abbrev pub finding_line : GivenNames → (name : List ℕ) → (place : ℕ) → Op → Finding → List ℕ
finding_line names name place op finding = name ++ (codes ": step " ++ (decimal place ++ (codes ": " ++ (finding_words names op finding ++ codes "\n"))))

-- the lines of the steps, one each and in their order; the first of them has this place
abbrev pub finding_lines : GivenNames → (name : List ℕ) → (place : ℕ) → List Op → List Finding → List ℕ
finding_lines names name place (op ∷ ops) (finding ∷ findings) = finding_line names name place op finding ++ finding_lines names name (place + 1) ops findings
finding_lines names name place _ _ = []

-- What comes of a text that is read.
use Rattle.std.proofs.Common.{◌≡◌, ◌⊎◌, inl, inr, ℕ, List, Bool, true, false, if◌then◌else◌, Result, Ok, Err, sym, subst, ◌∙◌}
use Rattle.cfg_records.specs.declared.board_file.BoardFile.{BoardFile}
use Rattle.text_board.specs.Holds.{ReadsText}
use Rattle.text_check.specs.declared.outcome.Outcome.{Outcome}
use Rattle.text_check.specs.declared.outcome.Outcome.TheVariants.{Fine, Told}
use Rattle.text_check.specs.Outcomes.{IsBoardOutcome, tells_board}

-- what a reader gave is what the text holds
pub is_read : {A E : Type 0} (Reads : Result A E → Type 0) (memory : E) (result : Result A E) (value : A) → (result ≡ Err memory) ⊎ Reads result → result ≡ Ok value → Reads (Ok value)
is_read Reads memory result value (inl lacking) is =
    let bad : Err memory ≡ Ok value = sym lacking ∙ is in
    cc
is_read Reads memory result value (inr reads) is = subst Reads is reads

-- a board file that is read is fine, or told of
pub comes_board : (text : List ℕ) (file : BoardFile) (told : Bool) (outcome : Outcome) → ReadsText text (Ok file) → told ≡ tells_board text file → outcome ≡ (if told then Told else Fine)
    → IsBoardOutcome text outcome
comes_board text file true outcome read same is = subst (IsBoardOutcome text) (sym is) (file, read, sym same)
comes_board text file false outcome read same is = subst (IsBoardOutcome text) (sym is) (file, read, sym same)

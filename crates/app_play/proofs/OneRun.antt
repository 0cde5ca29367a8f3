-- Three texts have one run.
use Rattle.std.proofs.Common.{◌≡◌, ◌∙◌, ◌⊎◌, inl, inr, ℕ, false, true≢false, List, Result, Ok, Err, ap, refl, subst, sym}
use Rattle.cfg_records.specs.declared.board_file.BoardFile.{BoardFile}
use Rattle.undo_plans.specs.declared.plan.Plan.{Plan}
use Rattle.text_board.specs.declared.fault.FileFault.{FileFault}
use Rattle.text_board.specs.declared.fault.FileFault.TheVariants as file
use Rattle.text_board.specs.Holds.{ReadsText}
use Rattle.plan_file.specs.declared.plan_fault.PlanFault.{PlanFault}
use Rattle.plan_file.specs.declared.plan_fault.PlanFault.TheVariants as plan
use Rattle.plan_file.specs.PlanHolds.{ReadsPlan}
use Rattle.text_lines.specs.declared.event.Event.{Event}
use Rattle.text_lines.specs.declared.schedule.ScheduleFault.{ScheduleFault}
use Rattle.text_lines.specs.declared.schedule.ScheduleFault.TheVariants as line
use Rattle.text_lines.specs.ScheduleText.{lines_of}
use Rattle.text_lines.specs.Schedule.{AreLinesOf, IsFirstBad, TextIsRead}
use Rattle.app_play.specs.declared.inputs.Inputs.{Inputs}
use Rattle.app_play.specs.declared.inputs.InputFault.{InputFault}
use Rattle.app_play.specs.declared.inputs.InputFault.TheVariants as fault
use Rattle.app_play.specs.Inputs.{IsBoard, IsPlan, InputsAreRead}
use Rattle.app_base.specs.declared.console.Stream.TheVariants.{Output, Error}
use Rattle.app_play.specs.Determined.{OneText, SaysOne}
use Rattle.app_play.specs.Run.{is_memory, refusal_line, Telling, PrintsPlay}

-- a text is read as one board, one plan and one list of events, or has one fault
pub record ReadOnce : Type 0 where
  pub board : (text : List ℕ) (a b : Result BoardFile FileFault) → ReadsText text a → ReadsText text b → a ≡ b
  pub plan : (text : List ℕ) (a b : Result Plan PlanFault) → ReadsPlan text a → ReadsPlan text b → a ≡ b
  pub events : (text : List ℕ) (events others : List Event) → AreLinesOf (lines_of text) events → AreLinesOf (lines_of text) others → events ≡ others
  pub refused : (text : List ℕ) (events : List Event) (number : ℕ) → AreLinesOf (lines_of text) events → ¬ IsFirstBad (lines_of text) number
  pub line : (text : List ℕ) (number other : ℕ) → IsFirstBad (lines_of text) number → IsFirstBad (lines_of text) other → number ≡ other

-- the texts are refused so, and memory sufficed
abbrev AreRefused : (board plan schedule : List ℕ) → InputFault → Type 0
AreRefused board plan schedule why = (is_memory why ≡ false) × InputsAreRead board plan schedule (Err why)

same_Ok : {A E : Type 0} (x y : A) → (let a : Result A E = Ok x in a) ≡ Ok y → x ≡ y
same_Ok x y same = cc same

same_Err : {A E : Type 0} (e f : E) → (let a : Result A E = Err e in a) ≡ Err f → e ≡ f
same_Err e f same = cc same

apart : {A E : Type 0} (x : A) (e : E) → (let a : Result A E = Ok x in a) ≡ Err e → ⊥
apart x e same = cc same

-- ---- a fault for which memory sufficed

board_fault : (text : List ℕ) (why : FileFault) → is_memory (fault.Board why) ≡ false → (why ≡ file.Memory) ⊎ ReadsText text (Err why) → ReadsText text (Err why)
board_fault text why enough (inl memory) = absurd (true≢false (sym (ap (λ (w : FileFault). is_memory (fault.Board w)) memory) ∙ enough))
board_fault text why enough (inr read) = read

plan_fault : (text : List ℕ) (why : PlanFault) → is_memory (fault.Plan why) ≡ false → (why ≡ plan.Memory) ⊎ ReadsPlan text (Err why) → ReadsPlan text (Err why)
plan_fault text why enough (inl memory) = absurd (true≢false (sym (ap (λ (w : PlanFault). is_memory (fault.Plan w)) memory) ∙ enough))
plan_fault text why enough (inr read) = read

line_fault : (text : List ℕ) (why : ScheduleFault) → is_memory (fault.Schedule why) ≡ false → TextIsRead text (Err why)
    → (number : ℕ) × (why ≡ line.Line number) × IsFirstBad (lines_of text) number
line_fault text line.Memory enough read = absurd (true≢false enough)
line_fault text (line.Line number) enough read = (number, refl, read)

module _ (once : ReadOnce) where
  -- ---- what is read has no fault

  board_clash : (text : List ℕ) (why : FileFault) → IsBoard text → is_memory (fault.Board why) ≡ false → (why ≡ file.Memory) ⊎ ReadsText text (Err why) → ⊥
  board_clash text why board enough read = apart board.0 why (once.board text (Ok board.0) (Err why) board.1 (board_fault text why enough read))

  plan_clash : (text : List ℕ) (why : PlanFault) → IsPlan text → is_memory (fault.Plan why) ≡ false → (why ≡ plan.Memory) ⊎ ReadsPlan text (Err why) → ⊥
  plan_clash text why plan enough read = apart plan.0 why (once.plan text (Ok plan.0) (Err why) plan.1 (plan_fault text why enough read))

  line_clash : (text : List ℕ) (events : List Event) (why : ScheduleFault) → AreLinesOf (lines_of text) events → is_memory (fault.Schedule why) ≡ false → TextIsRead text (Err why) → ⊥
  line_clash text events why say enough read = (let bad = line_fault text why enough read in once.refused text events bad.0 say bad.2)

  -- ---- one reading

  same_inputs : (inputs others : Inputs) → inputs.file ≡ others.file → inputs.plan ≡ others.plan → inputs.events ≡ others.events → inputs ≡ others
  same_inputs inputs others file plan events = λ i. record { file = file i; plan = plan i; events = events i }

  both_read : (board plan schedule : List ℕ) (inputs others : Inputs) → InputsAreRead board plan schedule (Ok inputs) → InputsAreRead board plan schedule (Ok others) → inputs ≡ others
  both_read board plan schedule inputs others is also =
      same_inputs inputs others
      (same_Ok inputs.file others.file (once.board board (Ok inputs.file) (Ok others.file) is.0 also.0))
      (same_Ok inputs.plan others.plan (once.plan plan (Ok inputs.plan) (Ok others.plan) is.1 also.1))
      (once.events schedule inputs.events others.events is.2 also.2)

  -- texts that tell inputs aren't refused
  not_refused : (board plan schedule : List ℕ) (inputs : Inputs) (why : InputFault) → InputsAreRead board plan schedule (Ok inputs) → AreRefused board plan schedule why → ⊥
  not_refused board plan schedule inputs (fault.Board why) is also = board_clash board why (inputs.file, is.0) also.0 also.1
  not_refused board plan schedule inputs (fault.Plan why) is also = plan_clash plan why (inputs.plan, is.1) also.0 also.1.1
  not_refused board plan schedule inputs (fault.Schedule why) is also = line_clash schedule inputs.events why is.2 also.0 also.1.2

  -- where the first is refused
  of_board : (board plan schedule : List ℕ) (why : FileFault) (other : InputFault) → AreRefused board plan schedule (fault.Board why) → AreRefused board plan schedule other
      → fault.Board why ≡ other
  of_board board plan schedule why (fault.Board cause) is also =
      ap fault.Board (same_Err why cause (once.board board (Err why) (Err cause) (board_fault board why is.0 is.1) (board_fault board cause also.0 also.1)))
  of_board board plan schedule why (fault.Plan cause) is also = absurd (board_clash board why also.1.0 is.0 is.1)
  of_board board plan schedule why (fault.Schedule cause) is also = absurd (board_clash board why also.1.0 is.0 is.1)

  -- where the second is
  of_plan : (board plan schedule : List ℕ) (why : PlanFault) (other : InputFault) → AreRefused board plan schedule (fault.Plan why) → AreRefused board plan schedule other
      → fault.Plan why ≡ other
  of_plan board plan schedule why (fault.Board cause) is also = absurd (board_clash board cause is.1.0 also.0 also.1)
  of_plan board plan schedule why (fault.Plan cause) is also =
      ap fault.Plan (same_Err why cause (once.plan plan (Err why) (Err cause) (plan_fault plan why is.0 is.1.1) (plan_fault plan cause also.0 also.1.1)))
  of_plan board plan schedule why (fault.Schedule cause) is also = absurd (plan_clash plan why also.1.1 is.0 is.1.1)

  -- and where the third is
  of_schedule : (board plan schedule : List ℕ) (why : ScheduleFault) (other : InputFault) → AreRefused board plan schedule (fault.Schedule why) → AreRefused board plan schedule other
      → fault.Schedule why ≡ other
  of_schedule board plan schedule why (fault.Board cause) is also = absurd (board_clash board cause is.1.0 also.0 also.1)
  of_schedule board plan schedule why (fault.Plan cause) is also = absurd (plan_clash plan cause is.1.1 also.0 also.1.1)
  of_schedule board plan schedule why (fault.Schedule cause) is also =
      let bad = line_fault schedule why is.0 is.1.2 in
      let worse = line_fault schedule cause also.0 also.1.2 in
      ap fault.Schedule (bad.1 ∙ ap line.Line (once.line schedule bad.0 worse.0 bad.2 worse.2) ∙ sym worse.1)

  of_fault : (board plan schedule : List ℕ) (why other : InputFault) → AreRefused board plan schedule why → AreRefused board plan schedule other → why ≡ other
  of_fault board plan schedule (fault.Board why) other is also = of_board board plan schedule why other is also
  of_fault board plan schedule (fault.Plan why) other is also = of_plan board plan schedule why other is also
  of_fault board plan schedule (fault.Schedule why) other is also = of_schedule board plan schedule why other is also

  -- ---- one saying

  pub one_saying : (tells : Telling) (board plan schedule : List ℕ) → OneText tells → SaysOne (PrintsPlay tells board plan schedule)
  one_saying tells board plan schedule one Output Output text other_text status other_status (inputs, read, told) (others, again, more) =
      let same : inputs ≡ others = both_read board plan schedule inputs others read again in
      let texts = one others text other_text status other_status (subst (λ (given : Inputs). tells given text status) same told) more in
      (refl, texts.0, texts.1)
  one_saying tells board plan schedule one Output Error text other_text status other_status (inputs, read, told) (why, enough, again, beside, finish) =
      absurd (not_refused board plan schedule inputs why read (enough, again))
  one_saying tells board plan schedule one Error Output text other_text status other_status (why, enough, read, line, end) (others, again, more) =
      absurd (not_refused board plan schedule others why again (enough, read))
  one_saying tells board plan schedule one Error Error text other_text status other_status (why, enough, read, line, end) (cause, too, again, beside, finish) =
      let same : why ≡ cause = of_fault board plan schedule why cause (enough, read) (too, again) in
      (refl, line ∙ ap refusal_line same ∙ sym beside, end ∙ sym finish)

-- Two Gets of a record that is the same at both.
use Rattle.std.proofs.Common.{◌≡◌, ℕ, List, Option, Some, ap, sym, ◌∙◌, subst}
use Rattle.cfg_records.specs.Records.{Records}
use Rattle.record_base.specs.declared.live.Live.{Live as LivePart}
use Rattle.record_base.specs.declared.message.Answered.{Answered}
use Rattle.record_kinds.specs.declared.limits.Limits.{Limits}
use Rattle.record_kinds.specs.Limits.{view, conf, limits_at}
use Rattle.record_kinds.specs.Series.{first_shown}
use Rattle.record_kinds.specs.SeriesLaws.{first_steady}
use Rattle.bmc_board.specs.Replies.{done, unknown_code}
use Rattle.bmc_board.specs.Answer.{AnswerAndState, get_answer}
use Rattle.bmc_board.specs.Undo.{IsSteady, IsShownAsBefore}
use Rattle.bmc_board.proofs.Undone.{get_served, unknown_is_fault, Shows, shows, is_undone}

some_same : (a b : Limits) → (let s : Option Limits = Some a in s) ≡ Some b → a ≡ b
some_same a b is = cc

-- a Get of a record that has this value is carried out
get_at : (limits : Option Limits) (value : Option (List ℕ)) (of : Limits) (old : List ℕ) (live : LivePart) (unknown : ℕ) (shown : Answered) → limits ≡ Some of → value ≡ Some old → shown ≡ get_answer limits value live unknown → shown ≡ done (first_shown of (view of old live))
get_at limits value of old live unknown shown limits_are value_is gets =
    subst (λ (v : Option (List ℕ)). shown ≡ get_answer (Some of) v live unknown) value_is (subst (λ (l : Option Limits). shown ≡ get_answer l value live unknown) limits_are gets)

pub is_steady : IsSteady
is_steady setup key limits first got second again shown shown_again h same =
    let unknown : ℕ = unknown_code setup key in
    let seen : Shows (limits_at setup key) (first.records key) first.activity.live shown = shows _ _ first.activity.live unknown shown (unknown_is_fault setup key) (ap (λ (g : AnswerAndState). g.0) (get_served setup first h.reader key shown got h.read)) h.was_read in
    let of_is : seen.of ≡ limits = some_same seen.of limits (sym seen.limits_are ∙ h.has_limits) in
    let had : second.records key ≡ Some seen.old = ap (λ (r : Records). r key) same ∙ seen.value_is in
    let then : shown ≡ done (first_shown limits (view limits seen.old first.activity.live)) = subst (λ (l : Limits). shown ≡ done (first_shown l (view l seen.old first.activity.live))) of_is seen.body_is in
    let now : shown_again ≡ done (first_shown limits (view limits seen.old second.activity.live)) =
    get_at _ _ limits seen.old second.activity.live unknown shown_again h.has_limits had (ap (λ (g : AnswerAndState). g.0) (get_served setup second h.later_reader key shown_again again h.read_again)) in
    let steady = first_steady limits seen.old second.activity.live first.activity.live in (
      ap (λ (a : Answered). a.code) now,
      ap (λ (a : Answered). conf limits a.body) now ∙ steady ∙ sym (ap (λ (a : Answered). conf limits a.body) then),
    )

pub is_shown_as_before : IsShownAsBefore
is_shown_as_before setup op made before got until after from back shown changed undone h key limits earlier seen later again shown_then shown_now reads at_start at_end =
    let undone_all : back.records ≡ before.records = (is_undone setup op made before got until after from back shown changed undone h).1 in
    is_steady setup key limits earlier seen later again shown_then shown_now reads (at_end ∙ undone_all ∙ sym at_start)

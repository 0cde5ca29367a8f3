-- The kept steps of a plan lead each record to where the plan leads it.
use Rattle.std.proofs.Common.{◌≡◌, ◌≢◌, ◌∙◌, ℕ, List, [], ◌∷◌, ◌++◌, Bool, true, false, Option, Some, None, refl, sym, subst}
use Rattle.std.specs.Prelude.{◌&&◌, ◌||◌, not, if◌then◌else◌}
use Rattle.std.specs.Option.{is_some}
use Rattle.std.specs.Str.{bytes_eq}
use Rattle.std.proofs.lemmas.Slice.Eq.{bytes_eq-Decides}
use Rattle.record_base.specs.declared.key.Key.{Key}
use Rattle.record_base.specs.declared.live.Live.{Live}
use Rattle.record_base.specs.declared.op.Op.{Op}
use Rattle.record_base.specs.Keys.{same_key}
use Rattle.record_base.specs.KeyLaws.{exact_key}
use Rattle.record_kinds.specs.declared.limits.Limits.{Limits}
use Rattle.record_kinds.specs.Limits.{inverse, key_of, sets, valid, view}
use Rattle.shown_records.specs.After.{after_of}
use Rattle.shown_records.specs.declared.meaning.Meaning.TheVariants.{Same}
use Rattle.shown_records.specs.Meaning.{Means}
use Rattle.shown_records.proofs.BoardsForeseen.{stays_same}
use Rattle.app_look.specs.declared.records.Came.{Came}
use Rattle.app_look.specs.declared.records.Came.TheVariants as came
use Rattle.app_look.specs.declared.records.Found.{Found}
use Rattle.app_change.specs.Foreseeing.{can_go}
use Rattle.app_change.specs.PreviewRuns.{Carries, SetsOrLeaves}
use Rattle.app_change.specs.Kept.{changes, have_record, kept_behind, leaves, with_step}
use Rattle.app_change.specs.Runs.{AreFoundAt, IsFoundAt, KeptLeadAlike}
use Rattle.app_change.proofs.OneMore.{record_more}

-- ---- tests

both_false : (a b : Bool) → (a || b) ≡ false → (a ≡ false) × (b ≡ false)
both_false true b is = absurd cc
both_false false b is = (refl, is)

both_true : (a b : Bool) → (a && b) ≡ true → (a ≡ true) × (b ≡ true)
both_true true b is = (refl, is)
both_true false b is = absurd cc

not_false : (a : Bool) → not a ≡ false → a ≡ true
not_false true is = refl
not_false false is = absurd cc

there : {A : Type 0} (a : Option A) → is_some a ≡ true → a ≢ None
there (Some a) is none = absurd cc
there None is none = absurd cc

-- ---- what a step that isn't kept means

same_meaning : (op : Op) (shown : List ℕ) → leaves op shown ≡ true → Means op shown Same
same_meaning op shown is =
    let parts = both_true (is_some (inverse op shown)) (bytes_eq (after_of op shown) shown) is in
    (there (inverse op shown) parts.0, (bytes_eq-Decides (after_of op shown) shown).0 parts.1)

-- a step that changes nothing of what was found leaves the record as it is
left_so : (limits : Limits) (op : Op) (old between : List ℕ) (found : Came) → valid limits old → IsFoundAt limits old found → changes op found ≡ false
    → sets limits op old between → between ≡ old
left_so limits op old between (came.Shown shown) is_valid (live, at) unchanged done =
    let means : Means op (view limits old live) Same =
    subst (λ (xs : List ℕ). Means op xs Same) at (same_meaning op shown.items (not_false (leaves op shown.items) unchanged)) in
    stays_same limits op old between live (record { is_valid = is_valid; done = done }) means
left_so limits op old between (came.Refused code) is_valid at unchanged done = absurd cc

-- ---- one step more

-- one of another record leaves this
other_leaves : (limits : Limits) (key : Key) (op : Op) (live : Live) (mid between : List ℕ) → same_key (key_of op) key ≡ false
    → SetsOrLeaves limits op (can_go key op (view limits mid live)) mid between → between ≡ mid
other_leaves limits key op live mid between other step =
    subst (λ (goes : Bool). SetsOrLeaves limits op (goes && is_some (inverse op (view limits mid live))) mid between) other step

carries_more : (limits : Limits) (key : Key) (live : Live) (steps : List Op) (op : Op) (old mid new : List ℕ) → Carries limits key live steps old mid
    → SetsOrLeaves limits op (can_go key op (view limits mid live)) mid new → Carries limits key live (steps ++ op ∷ []) old new
carries_more limits key live [] op old mid new same step =
    (new, subst (λ (value : List ℕ). SetsOrLeaves limits op (can_go key op (view limits value live)) value new) same step, refl)
carries_more limits key live (first ∷ steps) op old mid new carried step =
    (carried.0, carried.1, carries_more limits key live steps op carried.0 mid new carried.2 step)

module _ (limits : Limits) (key : Key) (live : Live) (old : List ℕ) (is_valid : valid limits old) where
  -- the kept steps lead to this value, and where none is on the record, that is the old one
  abbrev Leads : (kept : List Op) → (value : List ℕ) → Type 0
  Leads kept value = Carries limits key live kept old value × (have_record kept key ≡ false → value ≡ old)

  -- a step that isn't kept leaves the value
  unkept_leaves : (kept : List Op) (op : Op) (found : Came) (mid between : List ℕ) → Leads kept mid → (same_key (key_of op) key ≡ true → IsFoundAt limits old found)
      → have_record kept (key_of op) ≡ false → changes op found ≡ false → (goes : Bool) → can_go key op (view limits mid live) ≡ goes
      → SetsOrLeaves limits op goes mid between → between ≡ mid
  unkept_leaves kept op found mid between leads at unkept unchanged false is step = step
  unkept_leaves kept op found mid between leads at unkept unchanged true is step =
      let on = both_true (same_key (key_of op) key) (is_some (inverse op (view limits mid live))) is in
      let first : mid ≡ old = leads.1 (subst (λ (k : Key). have_record kept k ≡ false) (exact_key (key_of op) key on.0) unkept) in
      let done : sets limits op old between = subst (λ (value : List ℕ). sets limits op value between) first step in
      left_so limits op old between found is_valid (at on.0) unchanged done ∙ sym first

  -- a step that is kept is one more
  keeps_leading : (kept : List Op) (op : Op) (mid between : List ℕ) → Leads kept mid → SetsOrLeaves limits op (can_go key op (view limits mid live)) mid between
      → Leads (kept ++ op ∷ []) between
  keeps_leading kept op mid between leads step = (
    carries_more limits key live kept op old mid between leads.0 step,
    λ none. let neither = both_false (have_record kept key) (same_key (key_of op) key) (sym (record_more kept op key) ∙ none) in
        other_leaves limits key op live mid between neither.1 step ∙ leads.1 neither.0,
  )

  leads_on : (kept : List Op) (op : Op) (found : Came) (mid between : List ℕ) → Leads kept mid → (same_key (key_of op) key ≡ true → IsFoundAt limits old found)
      → SetsOrLeaves limits op (can_go key op (view limits mid live)) mid between → Leads (with_step kept op found) between
  leads_on kept op found mid between leads at step = by (have_record kept (key_of op) || changes op found) refl where
    by : (keeps : Bool) → (have_record kept (key_of op) || changes op found) ≡ keeps → Leads (if keeps then kept ++ op ∷ [] else kept) between
    by true is = keeps_leading kept op mid between leads step
    by false is =
        let neither = both_false (have_record kept (key_of op)) (changes op found) is in
        let same : between ≡ mid = unkept_leaves kept op found mid between leads at neither.0 neither.1 (can_go key op (view limits mid live)) refl step in
        subst (Leads kept) (sym same) leads

  all_lead : (kept steps : List Op) (found : List Found) (mid new : List ℕ) → Leads kept mid → AreFoundAt limits key old steps found
      → Carries limits key live steps mid new → Carries limits key live (kept_behind kept steps found) old new
  all_lead kept [] [] mid new leads at carried = subst (Carries limits key live kept old) (sym carried) leads.0
  all_lead kept [] (of ∷ found) mid new leads at carried = absurd at
  all_lead kept (op ∷ steps) [] mid new leads at carried = absurd at
  all_lead kept (op ∷ steps) (of ∷ found) mid new leads at carried =
      all_lead (with_step kept op of.came) steps found carried.0 new (leads_on kept op of.came mid carried.0 leads at.0 carried.1) at.1 carried.2

pub kept_lead_alike : KeptLeadAlike
kept_lead_alike limits key steps found old new live is_valid at carried =
    all_lead limits key live old is_valid [] steps found old new (refl, λ none. refl) at carried

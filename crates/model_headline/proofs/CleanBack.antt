-- Steps take the requests of the entries that they find and set, and their undo those of the entries that they found.
use Rattle.std.proofs.Common.{◌≡◌, ℕ, zero, suc, ◌+◌, ◌/◌, Bool, true, false, cond, not, List, [], ◌∷◌, ◌++◌, length, Option, Some, None, refl, sym, ◌∙◌, ap, subst, arith, ◌⊎◌, inl, inr}
use Rattle.std.specs.Prelude.{nat_le}
use Rattle.std.specs.Option.{option_map}
use Rattle.record_base.specs.declared.key.Key.TheVariants as key
use Rattle.record_base.specs.declared.op.Op.{Op}
use Rattle.record_base.specs.declared.op.Op.TheVariants as op
use Rattle.record_base.specs.declared.bios_attribute.SetBiosAttribute.{SetBiosAttribute}
use Rattle.record_base.specs.declared.attribute.Attribute.{Attribute}
use Rattle.record_base.specs.Attribute.{range_of}
use Rattle.cfg_records.specs.declared.board_file.BoardFile.{BoardFile}
use Rattle.cfg_records.specs.Records.{Records}
use Rattle.pldm_base.specs.Parts.{most_whole, goes_whole}
use Rattle.bios_attr.specs.BiosAttribute.{op_entry}
use Rattle.record_kinds.specs.declared.limits.Limits.{Limits}
use Rattle.record_kinds.specs.declared.limits.Limits.TheVariants as limits
use Rattle.record_kinds.specs.Boards.{attribute_at}
use Rattle.record_kinds.specs.Limits.{key_of, limits_at}
use Rattle.record_kinds.specs.Sound.{AreSoundRecords}
use Rattle.record_kinds.specs.Series.{Series, Reads, sends, set_whole}
use Rattle.bmc_board.specs.State.{State}
use Rattle.bmc_board.proofs.AnswerFacts.{stays_sound}
use Rattle.model_undo.specs.Family.{Family}
use Rattle.model_undo.specs.Undoable.{LeadsBack, CanUndo}
use Rattle.model_undo.specs.CleanSeries.{SeriesAnswered, AnswersAll, GoAll, AnswersEach}
use Rattle.model_lab.specs.Family.{answer, SetsWithin}
use Rattle.model_lab.proofs.IsFamily.{is_family}
use Rattle.model_lab.proofs.Board.{starts_valid}
use Rattle.model_lab.specs.ManagerSteps.{addresses}
use Rattle.undo_plans.specs.declared.names.Names.{Names}
use Rattle.model_headline.specs.Tied.{own_family}
use Rattle.model_headline.specs.CleanLink.{IsOfOne}
use Rattle.model_headline.specs.CleanParts.{parts_of, get_count, set_count, parts_at, step_parts, back_parts}
use Rattle.model_headline.proofs.CleanParts.{set_counted}
use Rattle.model_headline.proofs.CleanGets.{IsGotAlone, got_alone, gets_by}

-- ---- a Set has as many requests as a Get of what it sets

-- entries of one length have as many parts
parts_alike : (one other : List ℕ) → length one ≡ length other → parts_of one ≡ parts_of other
parts_alike one other same = ap (λ (n : ℕ). cond (nat_le n most_whole) 1 ((n + 191) / 192)) same

attribute_parts : (o : SetBiosAttribute) → set_count (set_whole (op.BiosAttribute o)) ≡ parts_of (op_entry o)
attribute_parts o = by (goes_whole (op_entry o))
  where
    by : (t : Bool) → cond (not t) (cond t 1 ((length (op_entry o) + 191) / 192)) 1 ≡ cond t 1 ((length (op_entry o) + 191) / 192)
    by true = refl
    by false = refl

within_parts : (handle : ℕ) (found : Option Attribute) (o : SetBiosAttribute) (old new : List ℕ) → let given : Option Limits = option_map (λ a. limits.BiosAttribute (record { handle = handle; read_only = a.read_only; range = range_of a.kind })) found in
    SetsWithin given (op.BiosAttribute o) old new → set_count (set_whole (op.BiosAttribute o)) ≡ get_count given (Some new)
within_parts handle None o old new sets = absurd sets
within_parts handle (Some a) o old new sets =
    attribute_parts o ∙ parts_alike (op_entry o) (0 ∷ 0 ∷ 0 ∷ new) (ap (λ (l : List ℕ). length (0 ∷ 0 ∷ 0 ∷ l)) (sym sets.is_new))

-- an operation on an attribute, or on a record of one request
attribute_or_one : (o : Op) → IsOfOne o ⊎ ((own : SetBiosAttribute) × (o ≡ op.BiosAttribute own))
attribute_or_one (op.BiosAttribute own) = inr (own, refl)
attribute_or_one _ = inl tt

pub key_alone : (o : Op) → IsOfOne o → (handle : ℕ) → key_of o ≡ key.BiosAttribute handle → ⊥
key_alone (op.BiosAttribute own) one handle e = one
key_alone _ one handle e = absurd cc

pub set_alone : (o : Op) → IsOfOne o → set_count (set_whole o) ≡ 1
set_alone (op.BiosAttribute own) one = absurd one
set_alone _ one = refl

pub get_one : (setup : BoardFile) (o : Op) (v : Option (List ℕ)) → IsOfOne o → get_count (limits_at setup (key_of o)) v ≡ 1
get_one setup o v one = by (got_alone setup (key_of o))
  where
    by : IsGotAlone setup (key_of o) ⊎ ((handle : ℕ) × (key_of o ≡ key.BiosAttribute handle)) → get_count (limits_at setup (key_of o)) v ≡ 1
    by (inl alone) = alone.1 v
    by (inr is) = absurd (key_alone o one is.0 is.1)

set_parts : (setup : BoardFile) (o : Op) (old new : List ℕ) → SetsWithin (limits_at setup (key_of o)) o old new → set_count (set_whole o) ≡ get_count (limits_at setup (key_of o)) (Some new)
set_parts setup o old new sets = by (attribute_or_one o)
  where
    by : IsOfOne o ⊎ ((own : SetBiosAttribute) × (o ≡ op.BiosAttribute own)) → set_count (set_whole o) ≡ get_count (limits_at setup (key_of o)) (Some new)
    by (inl one) = set_alone o one ∙ sym (get_one setup o (Some new) one)
    by (inr is) =
        subst (λ (x : Op). set_count (set_whole x) ≡ get_count (limits_at setup (key_of x)) (Some new)) (sym is.1)
        (within_parts is.0.attribute (attribute_at setup.attributes.items is.0.attribute) is.0 old new (subst (λ (x : Op). SetsWithin (limits_at setup (key_of x)) x old new) is.1 sets))

-- ---- the steps, and what undoes them

added : (n first more a b p q r : ℕ) → n ≡ first + more → first ≡ a + b → a ≡ p → b ≡ q → more ≡ r → n ≡ p + q + r
added n first more a b p q r e f g h i = omega (arith, e, f, g, h, i)

summed : (n a more p r : ℕ) → n ≡ a + more → a ≡ p → more ≡ r → n ≡ p + r
summed n a more p r e f g = omega (arith, e, f, g)

module _ (setup : BoardFile) (names : Names) where
  abbrev B : Family
  B = own_family setup names

  answers_sound : (series : Series) (before bodies : List (List ℕ)) (b c : State) → SeriesAnswered B (answer setup) series before bodies b c → AreSoundRecords setup b.records → AreSoundRecords setup c.records
  answers_sound series before [] b c h sound = subst (λ (s : State). AreSoundRecords setup s.records) (sym h) sound
  answers_sound series before (body ∷ bodies) b c h sound = answers_sound series (before ++ body ∷ []) bodies (answer setup b h.0).1 c h.3 (stays_sound setup b h.0 sound)

  pub steps_counted : (steps : List Op) (n : ℕ) (b c : State) (go : GoAll B (answer setup) steps n b c) → AreSoundRecords setup b.records → n ≡ step_parts setup names steps n b c go
  steps_counted [] n b c go sound = go.1
  steps_counted (o ∷ os) n b c go sound =
      let g = go.3 in
      let valid = (starts_valid setup (addresses names)).sound_valid b.records sound in
      let got = gets_by setup names (key_of o) (got_alone setup (key_of o)) g.got b g.mid valid g.read in
      let put = set_counted setup (addresses names) (set_whole o) g.put g.mid go.0 g.done in
      let mid_sound = answers_sound (Reads (key_of o)) [] g.got b g.mid g.read.replied sound in
      let next_sound = answers_sound (sends o) [] g.put g.mid go.0 g.done.replied mid_sound in
      let rest = steps_counted os go.2 go.0 c go.4 next_sound in
      added n go.1 go.2 (length g.got) (length g.put) (parts_at setup names b.records (key_of o)) (set_count (set_whole o)) (step_parts setup names os go.2 go.0 c go.4) go.5 g.counted got put rest

  -- what undoes a step sets what the step found
  back_is : (plan : List Op) (k : ℕ) (u : Series) (before r : Records) (l : LeadsBack B plan k u before r) → set_count (set_whole l.back) ≡ parts_at setup names before (key_of l.op)
  back_is plan k u before r l =
      let s = l.undone in
      let here : before (key_of l.back) ≡ Some s.after = ap (λ (v : Records). v (key_of l.back)) s.changed ∙ (is_family setup (addresses names)).kinds.get_put r (key_of l.back) s.before s.after s.found in
      set_parts setup l.back s.before s.after s.sets
      ∙ ap (get_count (limits_at setup (key_of l.back))) (sym here)
      ∙ ap (parts_at setup names before) l.same_key

  pub backs_counted : (plan : List Op) (start : Records) (k : ℕ) (us : List Series) (r : Records) (can : CanUndo B plan start k us r) (n : ℕ) (b c : State) → AnswersEach B (answer setup) us n b c
      → n ≡ back_parts setup names plan start k us r can
  backs_counted plan start zero [] r can n b c h = h.1
  backs_counted plan start zero (u ∷ us) r can n b c h = absurd can
  backs_counted plan start (suc k) [] r can n b c h = absurd can
  backs_counted plan start (suc k) (u ∷ us) r can n b c h =
      let l = can.2 in
      let one = set_counted setup (addresses names) (set_whole l.back) h.0 b h.1 (subst (λ (s : Series). AnswersAll B (answer setup) s h.0 b h.1) l.series h.3) ∙ back_is plan k u can.0 r l in
      let rest = backs_counted plan start k us can.0 can.1 h.2 h.1 c h.4 in
      summed n (length h.0) h.2 (parts_at setup names can.0 (key_of l.op)) (back_parts setup names plan start k us can.0 can.1) h.5 one rest

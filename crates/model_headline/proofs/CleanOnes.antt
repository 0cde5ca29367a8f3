-- Over a clean link a plan of steps whose Gets and Sets are one request each takes two requests for a step, and its undo one.
use Rattle.std.proofs.Common.{◌≡◌, ℕ, zero, suc, ◌+◌, List, [], ◌∷◌, ◌++◌, length, Some, None, refl, sym, ◌∙◌, ap, subst, arith}
use Rattle.std.specs.Prelude.{slice_get}
use Rattle.std.proofs.lemmas.Option.{none-some, same_Some}
use Rattle.record_base.specs.declared.op.Op.{Op}
use Rattle.record_base.specs.declared.op.Op.TheVariants as op
use Rattle.cfg_records.specs.declared.board_file.BoardFile.{BoardFile}
use Rattle.cfg_records.specs.Records.{Records}
use Rattle.record_kinds.specs.Limits.{key_of}
use Rattle.record_kinds.specs.Series.{Series, Reads, sends, set_whole, next_after}
use Rattle.bmc_board.specs.State.{State}
use Rattle.model_undo.specs.Family.{Family}
use Rattle.model_undo.specs.declared.phase.Why.{Why}
use Rattle.model_undo.specs.declared.phase.Why.TheVariants.{Stop, Refused, NotRestorable, GetRefused}
use Rattle.model_undo.specs.declared.phase.Phase.{Phase}
use Rattle.model_undo.specs.declared.phase.Phase.TheVariants.{Halted}
use Rattle.model_undo.specs.Undoable.{CanUndo}
use Rattle.model_undo.specs.CleanSeries.{AnswersAll, GoAll, HaltsSeries, EndsIn}
use Rattle.model_lab.specs.Family.{answer}
use Rattle.model_lab.specs.ManagerSteps.{addresses}
use Rattle.undo_plans.specs.declared.names.Names.{Names}
use Rattle.model_headline.specs.Tied.{own_family}
use Rattle.model_headline.specs.CleanLink.{IsOfOne, AreOfOne, count_at}
use Rattle.model_headline.specs.CleanParts.{set_count, parts_at, step_parts, back_parts}
use Rattle.model_headline.proofs.CleanParts.{was_next, alone_none, alone_count, refused_alone}
use Rattle.model_headline.proofs.CleanBack.{set_alone, get_one}

-- ---- the steps of a plan

each_of_one : (plan : List Op) → AreOfOne plan → (k : ℕ) (o : Op) → slice_get plan k ≡ Some o → IsOfOne o
each_of_one [] all k o e = absurd (none-some o e)
each_of_one (x ∷ xs) all zero o e = subst IsOfOne (same_Some _ _ e) all.0
each_of_one (x ∷ xs) all (suc k) o e = each_of_one xs all.1 k o e

pub split_of_one : (steps rest : List Op) → AreOfOne (steps ++ rest) → AreOfOne steps × AreOfOne rest
split_of_one [] rest all = (tt, all)
split_of_one (x ∷ xs) rest all = let both = split_of_one xs rest all.1 in ((all.0, both.0), both.1)

get_alone : (o : Op) → IsOfOne o → (body : List ℕ) (bodies : List (List ℕ)) → next_after (Reads (key_of o)) (body ∷ bodies) ≡ None
get_alone (op.BiosAttribute own) one body bodies = absurd one
get_alone _ one body bodies = refl

put_alone : (o : Op) → IsOfOne o → (body : List ℕ) (bodies : List (List ℕ)) → next_after (sends o) (body ∷ bodies) ≡ None
put_alone (op.BiosAttribute own) one body bodies = absurd one
put_alone o one body bodies = alone_none (set_whole o) (length (body ∷ bodies)) (omega arith)

two_more : (p q r n : ℕ) → p ≡ 1 → q ≡ 1 → r ≡ n + n → p + q + r ≡ suc n + suc n
two_more p q r n e f g = omega (arith, e, f, g)

one_more : (p r n : ℕ) → p ≡ 1 → r ≡ n → p + r ≡ suc n
one_more p r n e f = omega (arith, e, f)

module _ (setup : BoardFile) (names : Names) where
  abbrev B : Family
  B = own_family setup names

  pub steps_two : (steps : List Op) (n : ℕ) (b c : State) (go : GoAll B (answer setup) steps n b c) → AreOfOne steps → step_parts setup names steps n b c go ≡ length steps + length steps
  steps_two [] n b c go all = refl
  steps_two (o ∷ os) n b c go all =
      two_more (parts_at setup names b.records (key_of o)) (set_count (set_whole o)) (step_parts setup names os go.2 go.0 c go.4) (length os)
      (get_one setup o (b.records (key_of o)) all.0) (set_alone o all.0) (steps_two os go.2 go.0 c go.4 all.1)

  pub backs_one : (plan : List Op) (start : Records) (k : ℕ) (us : List Series) (r : Records) (can : CanUndo B plan start k us r) → AreOfOne plan → back_parts setup names plan start k us r can ≡ k
  backs_one plan start zero [] r can all = refl
  backs_one plan start zero (u ∷ us) r can all = absurd can
  backs_one plan start (suc k) [] r can all = absurd can
  backs_one plan start (suc k) (u ∷ us) r can all =
      let o = can.2.op in
      one_more (parts_at setup names can.0 (key_of o)) (back_parts setup names plan start k us can.0 can.1) k
      (get_one setup o (can.0 (key_of o)) (each_of_one plan all k o can.2.step)) (backs_one plan start k us can.0 can.1 all)

  got_one : (o : Op) → IsOfOne o → (bodies : List (List ℕ)) (b c : State) → AnswersAll B (answer setup) (Reads (key_of o)) bodies b c → length bodies ≡ 1
  got_one o one bodies b c h = alone_count setup (addresses names) (Reads (key_of o)) (length bodies) (get_alone o one) (was_next setup (addresses names) (Reads (key_of o)) bodies b c h)

  -- the step at which a plan halts
  pub more_one : (i : ℕ) (rest : List Op) (b : State) (phase : Phase) (n : ℕ) → AreOfOne rest → EndsIn B (answer setup) i rest b phase n → n ≡ count_at phase
  more_one i [] b phase n all e = e.1 ∙ sym (ap count_at e.0)
  more_one i (o ∷ os) b phase n all e = by e.0 e.1 e.2
    where
      by : (why : Why) → HaltsSeries B (answer setup) b o why n → phase ≡ Halted i why → n ≡ count_at phase
      by Stop s is = absurd s
      by (GetRefused code) s is = refused_alone setup (addresses names) (Reads (key_of o)) (get_alone o all.0) code n b s ∙ sym (ap count_at is)
      by NotRestorable s is = let all_of = got_one o all.0 s.0 b s.1 s.2 in let count = s.4 in let two : n ≡ 1 = count ∙ all_of in two ∙ sym (ap count_at is)
      by (Refused code) s is =
          let got = got_one o all.0 s.got b s.mid s.read in
          let put = refused_alone setup (addresses names) (sends o) (put_alone o all.0) code s.sets s.mid s.refuses in
          let count = s.counted in
          let two : n ≡ 2 = omega (arith, got, put, count) in
          two ∙ sym (ap count_at is)

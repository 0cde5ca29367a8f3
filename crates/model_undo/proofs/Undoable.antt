-- What leads back from the records after some steps of a plan to those at its start.
use Rattle.std.proofs.Common.{◌≡◌, ℕ, zero, suc, ◌≤◌, List, [], ◌∷◌, length, Some, None, refl, sym, ◌∙◌, ap, subst, arith}
use Rattle.std.specs.Prelude.{slice_get}
use Rattle.std.proofs.lemmas.Option.{same_Some, none-some}
use Rattle.model_undo.specs.Family.{Family, AllValid, SetsTo}
use Rattle.model_undo.specs.IsFamily.{ShownRecord, IsFamily}
use Rattle.model_undo.specs.Plan.{IsAfter}
use Rattle.model_undo.specs.Undoable.{CanUndo}

pub past_none : {X : Type 0} (xs : List X) (n : ℕ) → slice_get xs n ≡ None → length xs ≤ n
past_none [] n e = omega arith
past_none (x ∷ xs) zero e = absurd (none-some x (sym e))
past_none (x ∷ xs) (suc n) e = let h = past_none xs n e in omega arith

pub after_of : (F : Family) (plan : List F.words.Op) (start : F.Records) (k : ℕ) (us : List F.words.Series) (r : F.Records) → CanUndo F plan start k us r → IsAfter F plan start k r
after_of F plan start zero [] r h = h
after_of F plan start zero (u ∷ us) r h = absurd h
after_of F plan start (suc k) [] r h = absurd h
after_of F plan start (suc k) (u ∷ us) r h = (h.0, h.2.op, after_of F plan start k us h.0 h.1, h.2.step, h.2.done)

pub length_of : (F : Family) (plan : List F.words.Op) (start : F.Records) (k : ℕ) (us : List F.words.Series) (r : F.Records) → CanUndo F plan start k us r → length us ≡ k
length_of F plan start zero [] r h = refl
length_of F plan start zero (u ∷ us) r h = absurd h
length_of F plan start (suc k) [] r h = absurd h
length_of F plan start (suc k) (u ∷ us) r h = ap suc (length_of F plan start k us h.0 h.1)

-- the operation undoes the step, whatever the step makes of the record
pub record LeadsHome (F : Family) (op back : F.words.Op) (r : F.Records) : Type 0 where
  pub value : F.Value
  pub found : F.get r (F.words.key_of op) ≡ Some value
  pub leads_back : (w : F.Value) → F.Sets op value w → F.Sets back w value
  pub same_key : F.words.key_of back ≡ F.words.key_of op

module _ (F : Family) (laws : IsFamily F) where
  -- an operation that is accepted leaves one map
  pub sets_to_one : (op : F.words.Op) (old r s : F.Records) → SetsTo F op old r → SetsTo F op old s → r ≡ s
  sets_to_one op old r s a b =
      let same : a.before ≡ b.before = same_Some _ _ (sym a.found ∙ b.found) in
      let sets : F.Sets op b.before a.after = subst (λ (v : F.Value). F.Sets op v a.after) same a.sets in
      a.changed ∙ ap (F.put old (F.words.key_of op)) (laws.kinds.sets_one op b.before a.after b.after sets b.sets) ∙ sym b.changed

  pub sets_to_valid : (op : F.words.Op) (old r : F.Records) → AllValid F old → SetsTo F op old r → AllValid F r
  sets_to_valid op old r valid s =
      subst (AllValid F) (sym s.changed) (laws.kinds.put_valid old (F.words.key_of op) s.after valid (laws.kinds.sets_valid op s.before s.after (valid (F.words.key_of op) s.before s.found) s.sets))

  -- what was made ready leads back
  pub sets_back : (op back : F.words.Op) (old r : F.Records) → LeadsHome F op back old → SetsTo F op old r → SetsTo F back r old
  sets_back op back old r ready s =
      let key = F.words.key_of op in
      let same : s.before ≡ ready.value = same_Some _ _ (sym s.found ∙ ready.found) in
      let sets : F.Sets op ready.value s.after = subst (λ (v : F.Value). F.Sets op v s.after) same s.sets in
      let at : F.get r key ≡ Some s.after = ap (λ (x : F.Records). F.get x key) s.changed ∙ laws.kinds.get_put old key ready.value s.after ready.found in
      let home : old ≡ F.put r key ready.value = sym (ap (λ (x : F.Records). F.put x key ready.value) s.changed ∙ laws.kinds.put_back old key ready.value s.after ready.found) in
      record {
        before = s.after;
        after = ready.value;
        found = ap (F.get r) ready.same_key ∙ at;
        sets = ready.leads_back s.after sets;
        changed = home ∙ sym (ap (λ (x : F.words.Key). F.put r x ready.value) ready.same_key);
      }

  -- the inverse that is made from what the Get showed is ready
  pub ready : (op back : F.words.Op) (body : List ℕ) (r : F.Records) → AllValid F r → ShownRecord F (F.words.key_of op) body r → F.words.inverse op body ≡ Some back → LeadsHome F op back r
  ready op back body r valid shown e =
      let is_valid = valid (F.words.key_of op) shown.value shown.found in
      record {
        value = shown.value;
        found = shown.found;
        leads_back = λ w sets. laws.kinds.undoes op back shown.value w body is_valid sets shown.shows e;
        same_key = laws.kinds.same_key op back shown.value body is_valid shown.shows e;
      }

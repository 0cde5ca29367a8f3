use Rattle.std.proofs.Common.{◌≡◌, ◌∙◌, ◌+◌, ◌++◌, ◌<◌, ◌||◌, ℕ, Bool, true, false, List, [], ◌∷◌, ap, get_or, length, refl, string_bytes, subst, sym, take}
use Rattle.std.specs.List.{filter, list_any}
use Rattle.std.proofs.lemmas.Grind.{flat_map-append}
use Rattle.std.proofs.lemmas.List.{append_assoc, take_more}
use Rattle.std.proofs.lemmas.List.Elements.{filter-append}
use Rattle.std.proofs.lemmas.List.Folds.{list_any-append}
use Rattle.record_base.specs.declared.sensor.Sensor.{Sensor}
use Rattle.text_check.specs.Unfit.{fits_none, lines_of}
use Rattle.text_check.proofs.unfit.tell_unfit.Goals as goal
use Rattle.text_check.proofs.unfit.tell_unfit.Goals.{then-branch, else-branch}

or_true : (b : Bool) → (b || true) ≡ true
or_true true = refl
or_true false = refl

or_false : (b : Bool) → (b || false) ≡ b
or_false true = refl
or_false false = refl

-- the first records, and one more
taken : (xs : List (List ℕ)) (i : ℕ) (x : List ℕ) → i < length xs → x ≡ get_or xs i x → take (i + 1) xs ≡ take i xs ++ x ∷ []
taken xs i x within is = take_more xs i x within ∙ ap (λ (y : List ℕ). take i xs ++ y ∷ []) (sym is)

any_more : (t : List ℕ → Bool) (xs : List (List ℕ)) (i : ℕ) (x : List ℕ) → i < length xs → x ≡ get_or xs i x → list_any t (take (i + 1) xs) ≡ (list_any t (take i xs) || t x)
any_more t xs i x within is =
    ap (list_any t) (taken xs i x within is) ∙ list_any-append t (take i xs) (x ∷ []) ∙ ap (λ (b : Bool). list_any t (take i xs) || b) (or_false (t x))

-- the lines of the first that pass the test, and those of one more
lines_more : (name : List ℕ) (t : List ℕ → Bool) (xs : List (List ℕ)) (i : ℕ) (x old text next : List ℕ) → i < length xs → x ≡ get_or xs i x
    → text ≡ old ++ lines_of name (filter t (take i xs)) → next ≡ text ++ lines_of name (filter t (x ∷ [])) → next ≡ old ++ lines_of name (filter t (take (i + 1) xs))
lines_more name t xs i x old text next within is so_far more =
    let front = filter t (take i xs) in
    let back = filter t (x ∷ []) in
    more ∙ ap (λ (l : List ℕ). l ++ lines_of name back) so_far ∙ append_assoc old (lines_of name front) (lines_of name back)
    ∙ ap (λ (l : List ℕ). old ++ l) (sym (flat_map-append _ front back) ∙ ap (lines_of name) (sym (filter-append t (take i xs) (x ∷ [])) ∙ ap (filter t) (sym (taken xs i x within is))))

pub loop-kept-preserved : goal.loop-kept-preserved
loop-kept-preserved c =
    let ss = c.args.board.now.sensors.items in
    let xs = c.args.board.now.sdr.items in
    let i = c.loop-kept.kept-index in
    let x = c.kept-item.result in
    let within : i < length xs = subst (λ (l : List (List ℕ)). i < length l) c.as_slice-kept-items.ensures c.loop-kept-test.true in
    let is : x ≡ get_or xs i x = c.kept-item.is ∙ ap (λ (l : List (List ℕ)). get_or l i x) c.as_slice-kept-items.ensures in
    let fits : c.in_ok-tell_record.field-0 ≡ fits_none ss x = c.in_ok-tell_record.ensures.told ∙ ap (λ (l : List Sensor). fits_none l x) c.as_slice-sensors.ensures in
    let more = c.in_ok-tell_record.ensures.text ∙ ap (λ (l : List Sensor). string_bytes c.loop-kept.text ++ lines_of c.args.name.now (filter (fits_none l) (x ∷ []))) c.as_slice-sensors.ensures in
    let any = any_more (fits_none ss) xs i x within is in
    let before = list_any (fits_none ss) (take i xs) in (
      elim c.if-branch.branch [
        | then-branch w ↦ w.told-is ∙ sym (any ∙ ap (λ (b : Bool). before || b) (sym fits ∙ w.if-branch.true) ∙ or_true before)
        | else-branch w ↦ w.told-is ∙ c.loop-kept.invariant.0 ∙ sym (any ∙ ap (λ (b : Bool). before || b) (sym fits ∙ w.if-branch.false) ∙ or_false before)
      ],
      lines_more c.args.name.now (fits_none ss) xs i x (string_bytes c.args.text.now) (string_bytes c.loop-kept.text) (string_bytes c.tell_record.new.text) within is c.loop-kept.invariant.1 more,
    )

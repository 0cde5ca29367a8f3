-- The lines of a text, and the lists that they tell.
use Rattle.std.proofs.Common.{◌≡◌, inl, inr, ◌∷◌, ◌++◌, [], List, ℕ, ◌+◌, ◌<◌, ◌-◌, Bool, true, false, not, leb, Some, map, take, drop, length, get_or, slice_get, refl, sym, ◌∙◌, ap, subst, arith}
use Rattle.std.proofs.lemmas.Bool.{cases_lt, leb-true, le-leb}
use Rattle.std.proofs.lemmas.List.{map_more, take-take, take-map, take-append-drop, length-map, length-append, get_or_append_left, get_or-append-add}
use Rattle.std.proofs.lemmas.Option.{slice_get_within, unwrap_or-slice_get}
use Rattle.std.proofs.lemmas.List.Elements.{filter-append}
use Rattle.std.proofs.lemmas.List.Sorted.{IsNonDecreasingBy-push}
use Rattle.std.proofs.lemmas.Slice.Zip.{all_zipped_more}
use Rattle.std.specs.List.{AllZip}
use Rattle.std.specs.Option.{unwrap_or}
use Rattle.std.specs.Borrow.{Bor}
use Rattle.bmc_ports.specs.declared.timetable.Timed.{Timed}
use Rattle.text_lines.specs.ScheduleText.{words_of}
use Rattle.text_lines.specs.Schedule.{is_skipped, spoken}
use Rattle.app_serve.specs.ReadingsLine.{IsReadingLine}
use Rattle.app_serve.specs.ReadingsText.{NeverFalls, AreReadingLines, IsFirstBadOf}
use Rattle.app_serve.proofs.ReadingsOnce.{one_timed}

-- ---- lists

-- what holds of two lists place by place holds of their first parts
first_part : {A B : Type 0} (R : A → B → Type 0) (xs ys : List A) (zs : List B) → AllZip R (xs ++ ys) zs
    → (front : List B) × (back : List B) × (zs ≡ front ++ back) × AllZip R xs front × AllZip R ys back
first_part R [] ys zs all = ([], zs, refl, tt, all)
first_part R (x ∷ xs) ys [] all = absurd all
first_part R (x ∷ xs) ys (z ∷ zs) all =
    let rest = first_part R xs ys zs all.1 in
    (z ∷ rest.0, rest.1, ap (λ l. z ∷ l) rest.2, (all.0, rest.3), rest.4)

-- times that don't fall don't fall in the first part
front_order : (front back : List Timed) → NeverFalls (front ++ back) → NeverFalls front
front_order front back order i j d le within =
    let early : i < length front = omega (arith, le, within) in
    let longer : j < length (front ++ back) = omega (arith, within, length-append front back) in
    rw (sym (get_or_append_left front back d i early), sym (get_or_append_left front back d j within)) (order i j d le longer)

-- times go on not to fall exactly where the next one isn't before the last
pub comes_behind : (list : List Timed) (last next : Timed) → slice_get list (length list - 1) ≡ Some last → NeverFalls list
    → (leb last.at_ms next.at_ms ≡ true → NeverFalls (list ++ next ∷ [])) × (NeverFalls (list ++ next ∷ []) → leb last.at_ms next.at_ms ≡ true)
comes_behind list last next at order =
    let some : length list - 1 < length list = slice_get_within list (length list - 1) last at in
    let is : (d : Timed) → get_or list (length list - 1) d ≡ last = λ d. sym (unwrap_or-slice_get list (length list - 1) d) ∙ ap (λ found. unwrap_or found d) at in
    let end : length list < length (list ++ next ∷ []) = omega (arith, length-append list (next ∷ [])) in
    let zero_on : length list + 0 ≡ length list = omega arith in
    let before : get_or (list ++ next ∷ []) (length list - 1) last ≡ last = get_or_append_left list (next ∷ []) last (length list - 1) some ∙ is last in
    let behind : get_or (list ++ next ∷ []) (length list) last ≡ next = ap (λ n. get_or (list ++ next ∷ []) n last) (sym zero_on) ∙ get_or-append-add list (next ∷ []) 0 last in (
      λ le. IsNonDecreasingBy-push (λ t. t.at_ms) list next order (λ d any. omega (arith, leb-true last.at_ms next.at_ms le, ap (λ t. t.at_ms) (is d))),
      λ more. le-leb last.at_ms next.at_ms (omega (arith, more (length list - 1) (length list) last (omega (arith, some)) end, ap (λ t. t.at_ms) before, ap (λ t. t.at_ms) behind)),
    )

-- what a test of that says of the list that the slice shows
pub goes_on : (slice list : List Timed) (next : Timed) (r : Bool) → slice ≡ list → (r ≡ true → NeverFalls (slice ++ next ∷ [])) × (NeverFalls (slice ++ next ∷ []) → r ≡ true)
    → r ≡ true → NeverFalls (list ++ next ∷ [])
goes_on slice list next r same tells is = subst (λ l. NeverFalls (l ++ next ∷ [])) same (tells.0 is)

pub falls : (slice list : List Timed) (next : Timed) (r : Bool) → slice ≡ list → (r ≡ true → NeverFalls (slice ++ next ∷ [])) × (NeverFalls (slice ++ next ∷ []) → r ≡ true)
    → r ≡ false → ¬ NeverFalls (list ++ next ∷ [])
falls slice list next r same tells is order =
    let holds : r ≡ true = tells.1 (subst (λ l. NeverFalls (l ++ next ∷ [])) (sym same) order) in
    cc (is, holds)

-- ---- what lines tell

-- lines say one list
one_list : (lines : List (List ℕ)) (list other : List Timed) → AllZip IsReadingLine lines list → AllZip IsReadingLine lines other → list ≡ other
one_list [] [] [] told also = refl
one_list [] [] (o ∷ other) told also = absurd also
one_list [] (t ∷ list) other told also = absurd told
one_list (l ∷ lines) [] other told also = absurd told
one_list (l ∷ lines) (t ∷ list) [] told also = absurd also
one_list (l ∷ lines) (t ∷ list) (o ∷ other) told also =
    let first : t ≡ o = one_timed (words_of l) t o told.0 also.0 in
    let rest = one_list lines list other told.1 also.1 in
    cc (first, rest)

pub one_told : (lines : List (List ℕ)) (list other : List Timed) → AreReadingLines lines list → AreReadingLines lines other → list ≡ other
one_told lines list other told also = one_list (spoken lines) list other told.each also.each

-- where lines tell a list, the first of them tell one
first_told : (lines : List (List ℕ)) (list : List Timed) (place : ℕ) → AreReadingLines lines list → (front : List Timed) × AreReadingLines (take place lines) front
first_told lines list place told =
    let parts : spoken lines ≡ spoken (take place lines) ++ spoken (drop place lines) =
    ap spoken (sym (take-append-drop place lines)) ∙ filter-append (λ l. not (is_skipped l)) (take place lines) (drop place lines) in
    let cut = first_part IsReadingLine (spoken (take place lines)) (spoken (drop place lines)) list (subst (λ l. AllZip IsReadingLine l list) parts told.each) in
    (cut.0, record { each = cut.3; order = front_order cut.0 cut.1 (subst NeverFalls cut.2 told.order) })

pub told_or_bad : (lines : List (List ℕ)) (list : List Timed) (number : ℕ) → AreReadingLines lines list → ¬ IsFirstBadOf lines number
told_or_bad lines list number told first = let front = first_told lines list (first.place + 1) told in first.bad front.0 front.1

-- one line can't be the first bad one where a later one is
not_before : (lines : List (List ℕ)) (m n : ℕ) (early : IsFirstBadOf lines m) (late : IsFirstBadOf lines n) → early.place < late.place → ⊥
not_before lines m n early late before =
    let front = first_told (take late.place lines) late.before (early.place + 1) late.good in
    let same : take (early.place + 1) (take late.place lines) ≡ take (early.place + 1) lines = take-take (early.place + 1) late.place lines (omega (arith, before)) in
    early.bad front.0 (subst (λ l. AreReadingLines l front.0) same front.1)

pub one_first : (lines : List (List ℕ)) (m n : ℕ) → IsFirstBadOf lines m → IsFirstBadOf lines n → m ≡ n
one_first lines m n one two =
    elim (cases_lt one.place two.place) [
      | inl before ↦ absurd (not_before lines m n one two before)
      | inr behind ↦ elim (cases_lt two.place one.place) [
        | inl before ↦ absurd (not_before lines n m two one before)
        | inr ahead ↦ (let a = one.counted in let b = two.counted in omega (arith, a, b, behind, ahead))
      ]
    ]

-- ---- the reader's loop, before its lines and at one that isn't skipped

-- no lines tell no list
pub none_told : (list : List Timed) → list ≡ [] → AreReadingLines [] list
none_told list none = subst (λ (l : List Timed). AreReadingLines [] l) (sym none) (record { each = tt; order = λ i j d le within. absurd (omega (arith, within)) })

module _ (lines : List (Bor (List ℕ))) (place : ℕ) (d : Bor (List ℕ)) (within : place < length lines) (spoke : is_skipped (get_or lines place d).now ≡ false) where
  abbrev line : List ℕ
  line = (get_or lines place d).now

  abbrev read : List (Bor (List ℕ)) → List (List ℕ)
  read xs = map (λ x. x.now) xs

  spoken_more : spoken (read (take (place + 1) lines)) ≡ spoken (read (take place lines)) ++ line ∷ []
  spoken_more =
      ap spoken (map_more (λ (x : Bor (List ℕ)). x.now) lines place d within) ∙ filter-append (λ l. not (is_skipped l)) (read (take place lines)) (line ∷ [])
      ∙ rw spoke refl

  pub next_told : (list : List Timed) (timed : Timed) → AreReadingLines (read (take place lines)) list → IsReadingLine line timed → NeverFalls (list ++ timed ∷ [])
      → AreReadingLines (read (take (place + 1) lines)) (list ++ timed ∷ [])
  next_told list timed told says order = record {
    each = rw spoken_more (all_zipped_more IsReadingLine (spoken (read (take place lines))) list line timed told.each says);
    order = order;
  }

  -- what the lines tell with this one is what they tell before it, and what it says
  last_said : (list whole : List Timed) → AreReadingLines (read (take place lines)) list → AreReadingLines (read (take (place + 1) lines)) whole
      → (timed : Timed) × IsReadingLine line timed × NeverFalls (list ++ timed ∷ [])
  last_said list whole told also =
      let cut = first_part IsReadingLine (spoken (read (take place lines))) (line ∷ []) whole (subst (λ l. AllZip IsReadingLine l whole) spoken_more also.each) in
      let same : list ≡ cut.0 = one_list (spoken (read (take place lines))) list cut.0 told.each cut.3 in
      last_of cut.1 cut.4 (subst NeverFalls (cut.2 ∙ ap (λ l. l ++ cut.1) (sym same)) also.order)
    where
      last_of : (back : List Timed) → AllZip IsReadingLine (line ∷ []) back → NeverFalls (list ++ back) → (timed : Timed) × IsReadingLine line timed × NeverFalls (list ++ timed ∷ [])
      last_of [] all order = absurd all
      last_of (timed ∷ []) all order = (timed, all.0, order)
      last_of (timed ∷ more ∷ back) all order = absurd all.1

  bad_first : (list : List Timed) → AreReadingLines (read (take place lines)) list → ((timed : Timed) → IsReadingLine line timed → ¬ NeverFalls (list ++ timed ∷ [])) → IsFirstBadOf (read lines) (place + 1)
  bad_first list told none = record {
    place = place;
    counted = refl;
    there = omega (arith, within, length-map lines (λ (x : Bor (List ℕ)). x.now));
    before = list;
    good = subst (λ l. AreReadingLines l list) (sym (take-map (λ (x : Bor (List ℕ)). x.now) place lines)) told;
    bad = λ whole also. (
        let last = last_said list whole told (subst (λ l. AreReadingLines l whole) (take-map (λ (x : Bor (List ℕ)). x.now) (place + 1) lines) also) in
        none last.0 last.1 last.2
        );
  }

  -- it says nothing
  pub silent_first : (list : List Timed) → AreReadingLines (read (take place lines)) list → ((timed : Timed) → ¬ IsReadingLine line timed) → IsFirstBadOf (read lines) (place + 1)
  silent_first list told none = bad_first list told (λ timed says order. none timed says)

  -- its time falls
  pub falling_first : (list : List Timed) (timed : Timed) → AreReadingLines (read (take place lines)) list → IsReadingLine line timed → ¬ NeverFalls (list ++ timed ∷ []) → IsFirstBadOf (read lines) (place + 1)
  falling_first list timed told says falls =
      bad_first list told (λ other also order. falls (subst (λ t. NeverFalls (list ++ t ∷ [])) (one_timed (words_of line) other timed also says) order))

-- The strings of attributes are the texts that they use, each once, in the order of their first uses.
use Rattle.std.proofs.Common.{◌≡◌, ℕ, zero, suc, ◌+◌, ◌<◌, ◌≤◌, List, [], ◌∷◌, ◌++◌, length, get_or, Bool, true, false, ◌||◌, eqb, cond, not, if◌then◌else◌, Some, None, inl, inr, refl, sym, ◌∙◌, ap, subst, arith, length-append}
use Rattle.std.specs.Prelude.{AllPairs, slice_get, nat_lt}
use Rattle.std.specs.List.{flat_map, list_any, position_or_len}
use Rattle.std.specs.Option.{unwrap_or}
use Rattle.std.specs.Cmp.Lexicographic.{same_text}
use Rattle.std.proofs.lemmas.Cmp.{nat_list_eq_equiv}
use Rattle.std.proofs.lemmas.Bool.{cases_lt}
use Rattle.std.proofs.lemmas.Bool.Decides.{nat_tests}
use Rattle.std.proofs.lemmas.List.{append-nil, append_assoc, get_or_push, get_or_append_left}
use Rattle.std.proofs.lemmas.List.Concat.{flat_map-cons}
use Rattle.std.proofs.lemmas.List.Folds.{position_or_len_push, list_any-append}
use Rattle.std.proofs.lemmas.List.Sums.{passes_at_first, prefix_len-le-length}
use Rattle.std.proofs.lemmas.List.Quantifiers.{all_pairs_push}
use Rattle.record_base.specs.declared.attribute.Attribute.{Attribute}
use Rattle.bios_attr.specs.declared.string_entry.StringEntry.{StringEntry}
use Rattle.bios_attr.specs.Attributes.{is_text, with_text, with_texts, with_attributes, strings_of, texts_of, handle_of, string_entry, string_entries}
use Rattle.bios_attr.specs.StringEntry.{string_bytes}
use Rattle.bios_attr.specs.StringTable.{texts_used, first_use, numbered, AreStrings}

-- ---- texts

own : (text : List ℕ) → is_text text text ≡ true
own text = nat_list_eq_equiv.refl text

same : (text other : List ℕ) → is_text text other ≡ true → other ≡ text
same text other h = same_text other text (sym h)

-- a test that an element passes is passed first at a place
first_within : (b : Bool) (rest n all : ℕ) → (b ≡ false → rest < n) → n + 1 ≡ all → cond (not b) (1 + rest) 0 < all
first_within true rest n all h is = omega (arith, is)
first_within false rest n all h is = omega (arith, h refl, is)

behind_first : (b c : Bool) → (b || c) ≡ true → b ≡ false → c ≡ true
behind_first true c h is = absurd cc
behind_first false c h is = h

any_first : {X : Type 0} (p : X → Bool) (xs : List X) → list_any p xs ≡ true → position_or_len p xs < length xs
any_first p [] h = absurd cc
any_first p (x ∷ xs) h = first_within (p x) (position_or_len p xs) (length xs) (length (x ∷ xs)) (λ is. any_first p xs (behind_first (p x) (list_any p xs) h is)) (omega arith)

-- ---- the texts so far, and what is used so far

record InOrder (used strings : List (List ℕ)) : Type 0 where
  known : (k : ℕ) (d : List ℕ) → k < length strings → first_use used (get_or strings k d) < length used
  ordered : AllPairs (λ a b. first_use used a < first_use used b) strings
  there : (k : ℕ) (d : List ℕ) → k < length used → list_any (is_text (get_or used k d)) strings ≡ true

-- what is used already is used first where it was
before_end : (b : Bool) (m n : ℕ) → m < n → cond (eqb m n) (n + cond b 0 1) m ≡ m
before_end b m n h = grind (arith, nat_tests)

first_kept : (used : List (List ℕ)) (text other : List ℕ) → first_use used other < length used → first_use (used ++ text ∷ []) other ≡ first_use used other
first_kept used text other within = position_or_len_push (is_text other) used text ∙ before_end (is_text other text) (first_use used other) (length used) within

-- a text that isn't among the strings isn't used yet, so it is used first at the end
at_end : (m n : ℕ) → m ≤ n → (m < n → ⊥) → m ≡ n
at_end m n most not_within = elim (cases_lt m n) [ inl less ↦ absurd (not_within less) | inr no_less ↦ omega (arith, most, no_less) ]

first_new : (used strings : List (List ℕ)) (text : List ℕ) → InOrder used strings → list_any (is_text text) strings ≡ false → first_use used text ≡ length used
first_new used strings text is none =
    at_end (first_use used text) (length used) (prefix_len-le-length (λ other. not (is_text text other)) used) (λ within.
    let place : ℕ = first_use used text in
    let equal : get_or used place [] ≡ text = same text (get_or used place []) (passes_at_first (is_text text) used [] within) in
    let has : list_any (is_text text) strings ≡ true = subst (λ (other : List ℕ). list_any (is_text other) strings ≡ true) equal (is.there place [] within) in
    absurd cc)

ending : (b : Bool) (m n : ℕ) → m ≡ n → b ≡ true → cond (eqb m n) (n + cond b 0 1) m ≡ n
ending true m n h is = grind (arith, nat_tests)
ending false m n h is = absurd cc

first_end : (used strings : List (List ℕ)) (text : List ℕ) → InOrder used strings → list_any (is_text text) strings ≡ false → first_use (used ++ text ∷ []) text ≡ length used
first_end used strings text is none = position_or_len_push (is_text text) used text ∙ ending (is_text text text) (first_use used text) (length used) (first_new used strings text is none) (own text)

-- ---- a text more

known_more : (used strings : List (List ℕ)) (text : List ℕ) → InOrder used strings → (k : ℕ) (d : List ℕ) → k < length strings → first_use (used ++ text ∷ []) (get_or strings k d) < length used
known_more used strings text is k d within =
    let before = is.known k d within in
    omega (arith, first_kept used text (get_or strings k d) before, before)

ordered_more : (used strings : List (List ℕ)) (text : List ℕ) → InOrder used strings → AllPairs (λ a b. first_use (used ++ text ∷ []) a < first_use (used ++ text ∷ []) b) strings
ordered_more used strings text is i j d less within =
    let first = first_kept used text (get_or strings i d) (is.known i d (omega (arith, less, within))) in
    let second = first_kept used text (get_or strings j d) (is.known j d within) in
    omega (arith, first, second, is.ordered i j d less within)

there_more : (used new : List (List ℕ)) (text : List ℕ) → ((k : ℕ) (d : List ℕ) → k < length used → list_any (is_text (get_or used k d)) new ≡ true) → list_any (is_text text) new ≡ true
    → (k : ℕ) (d : List ℕ) → k < length (used ++ text ∷ []) → list_any (is_text (get_or (used ++ text ∷ []) k d)) new ≡ true
there_more used new text before has k d within = elim (cases_lt k (length used)) [
  | inl less ↦ subst (λ (other : List ℕ). list_any (is_text other) new ≡ true) (sym (get_or_append_left used (text ∷ []) d k less)) (before k d less)
  | inr no_less ↦ subst (λ (other : List ℕ). list_any (is_text other) new ≡ true) (sym (get_or_push used text d k (omega (arith, within, no_less, length-append used (text ∷ []))))) has
]

is_there_already : (used strings : List (List ℕ)) (text : List ℕ) → InOrder used strings → list_any (is_text text) strings ≡ true → InOrder (used ++ text ∷ []) strings
is_there_already used strings text is has = record {
  known = λ k d within. omega (arith, known_more used strings text is k d within, length-append used (text ∷ []));
  ordered = ordered_more used strings text is;
  there = there_more used strings text is.there has;
}

or_true : (a b : Bool) → b ≡ true → (a || b) ≡ true
or_true true b h = refl
or_true false b h = h

true_or : (a b : Bool) → a ≡ true → (a || b) ≡ true
true_or true b h = refl
true_or false b h = absurd cc

is_new : (used strings : List (List ℕ)) (text : List ℕ) → InOrder used strings → list_any (is_text text) strings ≡ false → InOrder (used ++ text ∷ []) (strings ++ text ∷ [])
is_new used strings text is none =
    let last = first_end used strings text is none in
    record {
      known = λ k d within. elim (cases_lt k (length strings)) [
        | inl less ↦ subst (λ (other : List ℕ). first_use (used ++ text ∷ []) other < length (used ++ text ∷ [])) (sym (get_or_append_left strings (text ∷ []) d k less))
            (omega (arith, known_more used strings text is k d less, length-append used (text ∷ [])))
        | inr no_less ↦ subst (λ (other : List ℕ). first_use (used ++ text ∷ []) other < length (used ++ text ∷ [])) (sym (get_or_push strings text d k (omega (arith, within, no_less, length-append strings (text ∷ [])))))
            (omega (arith, last, length-append used (text ∷ [])))
      ];
      ordered = all_pairs_push (λ a b. first_use (used ++ text ∷ []) a < first_use (used ++ text ∷ []) b) strings text (ordered_more used strings text is)
          (λ k d within. omega (arith, last, known_more used strings text is k d within));
      there = there_more used (strings ++ text ∷ []) text
          (λ k d within. list_any-append (is_text (get_or used k d)) strings (text ∷ []) ∙ true_or _ (list_any (is_text (get_or used k d)) (text ∷ [])) (is.there k d within))
          (list_any-append (is_text text) strings (text ∷ []) ∙ or_true (list_any (is_text text) strings) (list_any (is_text text) (text ∷ [])) (true_or _ false (own text)));
    }

text_chosen : (used strings : List (List ℕ)) (text : List ℕ) → InOrder used strings → (b : Bool) → list_any (is_text text) strings ≡ b → InOrder (used ++ text ∷ []) (if b then strings else strings ++ text ∷ [])
text_chosen used strings text is true h = is_there_already used strings text is h
text_chosen used strings text is false h = is_new used strings text is h

texts_in_order : (used strings texts : List (List ℕ)) → InOrder used strings → InOrder (used ++ texts) (with_texts strings texts)
texts_in_order used strings [] is = subst (λ (xs : List (List ℕ)). InOrder xs strings) (sym (append-nil used)) is
texts_in_order used strings (text ∷ texts) is =
    subst (λ (xs : List (List ℕ)). InOrder xs (with_texts (with_text strings text) texts)) (append_assoc used (text ∷ []) texts)
    (texts_in_order (used ++ text ∷ []) (with_text strings text) texts (text_chosen used strings text is _ refl))

attributes_in_order : (used strings : List (List ℕ)) (attributes : List Attribute) → InOrder used strings → InOrder (used ++ flat_map texts_of attributes) (with_attributes strings attributes)
attributes_in_order used strings [] is = subst (λ (xs : List (List ℕ)). InOrder xs strings) (sym (append-nil used)) is
attributes_in_order used strings (attribute ∷ attributes) is =
    subst (λ (xs : List (List ℕ)). InOrder xs (with_attributes (with_texts strings (texts_of attribute)) attributes))
    (append_assoc used (texts_of attribute) (flat_map texts_of attributes) ∙ ap (λ (xs : List (List ℕ)). used ++ xs) (sym (flat_map-cons texts_of attribute attributes)))
    (attributes_in_order (used ++ texts_of attribute) (with_texts strings (texts_of attribute)) attributes (texts_in_order used strings (texts_of attribute) is))

none_yet : InOrder [] []
none_yet = record { known = λ k d within. absurd (omega arith); ordered = λ i j d less within. absurd (omega arith); there = λ k d within. absurd (omega arith) }

-- ---- handles

pub numbered_entries : (handle : ℕ) (strings : List (List ℕ)) → string_entries handle strings ≡ flat_map string_bytes (numbered handle strings)
numbered_entries handle [] = refl
numbered_entries handle (text ∷ texts) =
    let first : StringEntry = record { handle = handle; text = text } in
    ap (λ (xs : List ℕ). string_entry handle text ++ xs) (numbered_entries (handle + 1) texts) ∙ sym (flat_map-cons string_bytes first (numbered (handle + 1) texts))

numbered_at : (handle : ℕ) (strings : List (List ℕ)) (k : ℕ) (d : List ℕ) → k < length strings → slice_get (numbered handle strings) k ≡ Some (record { handle = handle + k; text = get_or strings k d })
numbered_at handle [] k d within = absurd (omega arith)
numbered_at handle (text ∷ texts) zero d within = let same_handle : handle ≡ handle + 0 = omega arith in λ i. Some (record { handle = same_handle i; text = text })
numbered_at handle (text ∷ texts) (suc k) d within =
    let same_handle : (handle + 1) + k ≡ handle + suc k = omega arith in
    numbered_at (handle + 1) texts k d (omega (arith, within)) ∙ (λ i. Some (record { handle = same_handle i; text = get_or texts k d }))

lt_true : (m n : ℕ) → m < n → nat_lt m n ≡ true
lt_true m n h = grind (arith, nat_tests)

handle_at : (strings : List (List ℕ)) (text : List ℕ) → position_or_len (is_text text) strings < length strings → handle_of strings text ≡ position_or_len (is_text text) strings
handle_at strings text within = ap (λ (b : Bool). unwrap_or (cond b (Some (position_or_len (is_text text) strings)) None) 0) (lt_true _ _ within)

has_handle : (strings : List (List ℕ)) (text : List ℕ) → list_any (is_text text) strings ≡ true → slice_get (numbered 0 strings) (handle_of strings text) ≡ Some (record { handle = handle_of strings text; text = text })
has_handle strings text has =
    let place : ℕ = position_or_len (is_text text) strings in
    let within : place < length strings = any_first (is_text text) strings has in
    let at : handle_of strings text ≡ place = handle_at strings text within in
    let equal : get_or strings place [] ≡ text = same text (get_or strings place []) (passes_at_first (is_text text) strings [] within) in
    let from_zero : 0 + place ≡ place = omega arith in
    ap (slice_get (numbered 0 strings)) at
    ∙ numbered_at 0 strings place [] within
    ∙ (λ i. Some (record { handle = (from_zero ∙ sym at) i; text = equal i }))

-- ---- the strings of attributes

pub are_strings : (attributes : List Attribute) → AreStrings (texts_used attributes) (strings_of attributes)
are_strings attributes =
    let is : InOrder (texts_used attributes) (strings_of attributes) = attributes_in_order [] [] attributes none_yet in
    record {
      distinct = λ i j d less within equal. let sooner = is.ordered i j d less within in let as_soon = ap (first_use (texts_used attributes)) equal in omega (arith, sooner, as_soon);
      known = is.known;
      in_order = is.ordered;
      counted = numbered_entries 0 (strings_of attributes);
      found = λ k d within. has_handle (strings_of attributes) (get_or (texts_used attributes) k d) (is.there k d within);
    }

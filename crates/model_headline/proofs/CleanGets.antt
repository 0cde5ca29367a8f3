-- A Get is as many requests as the entry of the record has parts.
use Rattle.std.proofs.Common.{◌≡◌, ℕ, ◌+◌, ◌-◌, ◌*◌, ◌/◌, ◌<◌, ◌≤◌, Bool, true, false, cond, ◌&&◌, List, [], ◌∷◌, ◌++◌, length, drop, Option, Some, None, refl, sym, ◌∙◌, ap, subst, arith, length-append, ◌⊎◌, inl, inr}
use Rattle.std.specs.Prelude.{◌==◌, nat_le, nat_lt}
use Rattle.std.specs.Option.{option_map}
use Rattle.std.specs.List.{flat_map}
use Rattle.std.proofs.lemmas.Bool.{and_parts, eqb-true, ltb-true, leb-true}
use Rattle.std.proofs.lemmas.Bool.Decides.{nat_tests}
use Rattle.std.proofs.lemmas.List.{length-drop, length-take}
use Rattle.std.proofs.lemmas.Option.{none-some, same_Some}
use Rattle.two_wire.specs.declared.Bus.{Bus}
use Rattle.record_base.specs.declared.key.Key.{Key}
use Rattle.record_base.specs.declared.key.Key.TheVariants as key
use Rattle.record_base.specs.declared.message.Asked.{Asked}
use Rattle.record_base.specs.Requests.{byte_at}
use Rattle.record_base.specs.Attribute.{range_of}
use Rattle.record_base.specs.declared.attribute.Attribute.{Attribute}
use Rattle.cfg_records.specs.declared.board_file.BoardFile.{BoardFile}
use Rattle.cfg_records.specs.Records.{Records}
use Rattle.pldm_base.specs.Parts.{part_length, flag_of, flag_byte, next_handle, most_whole, goes_whole}
use Rattle.bios_attr.specs.declared.bios_attribute.AttributeLimits.{AttributeLimits}
use Rattle.bios_attr.specs.BiosAttribute.{attribute_view}
use Rattle.bios_attr.specs.EntryParts.{entry_in, before_part, most_entry, start_and_end, no_handle, transfer_handle, part_with, first_part, get_part, last_of, goes_on, ends, joined}
use Rattle.undo_plans.specs.Showing.{is_whole, shown_by}
use Rattle.record_kinds.specs.declared.limits.Limits.{Limits}
use Rattle.record_kinds.specs.declared.limits.Limits.TheVariants as limits
use Rattle.record_kinds.specs.Limits.{limits_at, view}
use Rattle.record_kinds.specs.Boards.{attribute_at}
use Rattle.record_kinds.specs.Series.{Reads, set_whole, next_after, first_shown}
use Rattle.bmc_board.specs.State.{State}
use Rattle.bmc_board.proofs.OneAnswer.{has_answer}
use Rattle.model_bus.specs.Addresses.{Addresses}
use Rattle.model_bus.specs.Answered.{Answered}
use Rattle.model_undo.specs.Words.{Words, IsNext, AreAnswered, AllAnswered}
use Rattle.model_undo.specs.Family.{Family, AllValid, GaveAnswer}
use Rattle.model_undo.specs.IsFamily.{ShownRecord}
use Rattle.model_undo.proofs.Series.{is_of}
use Rattle.model_undo.specs.CleanSeries.{SeriesAnswered, AnswersAll}
use Rattle.model_lab.specs.ManagerWords.{from_manager}
use Rattle.model_lab.specs.ManagerSteps.{addresses}
use Rattle.model_lab.specs.Family.{family, answer, ShowsWithin}
use Rattle.model_lab.proofs.IsFamily.{is_family}
use Rattle.model_lab.proofs.Gets.{Shown, first_given}
use Rattle.undo_plans.specs.declared.names.Names.{Names}
use Rattle.model_headline.specs.CleanParts.{parts_of, get_count, TakesParts}
use Rattle.model_headline.proofs.Series.{mapped}
use Rattle.model_headline.proofs.CleanParts.{rounded_up, count_long, was_next, alone_count, set_counted}

-- ---- the replies that show parts

last_again : (before : List (List ℕ)) (x : List ℕ) → last_of (before ++ x ∷ []) ≡ x
last_again [] x = refl
last_again (b ∷ []) x = refl
last_again (b ∷ c ∷ bs) x = last_again (c ∷ bs) x

next_behind : (M : Words) (series : M.Series) (before : List (List ℕ)) (x : List ℕ) (asked : M.Asked) → IsNext M series (before ++ x ∷ []) asked → M.next series (before ++ x ∷ []) ≡ Some asked
next_behind M series [] x asked is = is
next_behind M series (b ∷ bs) x asked is = is

-- where a request comes behind a reply, this shows 192 bytes
full_part : (handle : ℕ) (bodies : List (List ℕ)) (asked : Asked) → next_after (Reads (key.BiosAttribute handle)) bodies ≡ Some asked → length (last_of bodies) ≡ before_part + part_length
full_part handle bodies asked e = by (goes_on (length bodies) (last_of bodies)) refl e
  where
    by : (t : Bool) → goes_on (length bodies) (last_of bodies) ≡ t → cond t (Some (get_part handle (part_length * length bodies))) None ≡ Some asked → length (last_of bodies) ≡ before_part + part_length
    by true t e =
        let last = last_of bodies in
        let count = length bodies in
        let flagged = and_parts ((byte_at last 4 == flag_byte (flag_of (count == 1) false)) && (length last == before_part + part_length)) ((transfer_handle last == part_length * count) && nat_lt (part_length * count) most_entry) t in
        eqb-true _ _ (and_parts (byte_at last 4 == flag_byte (flag_of (count == 1) false)) (length last == before_part + part_length) flagged.0).1
    by false t e = absurd (none-some asked e)

-- the last reply shows the end of a long entry
ended : (n : ℕ) (last : List ℕ) → ends n last ≡ true
    → (most_whole < part_length * (n - 1) + (length last - before_part)) × (before_part < length last) × (length last ≤ before_part + part_length)
ended n last e =
    let size = part_length * (n - 1) + (length last - before_part) in
    let few = nat_lt before_part (length last) && nat_le (length last) (before_part + part_length) in
    let fits = nat_lt most_whole size && nat_le size most_entry in
    let both = and_parts few fits (and_parts ((byte_at last 4 == flag_byte (flag_of false true)) && (transfer_handle last == 0)) (few && fits) e).1 in
    let sizes = and_parts (nat_lt before_part (length last)) (nat_le (length last) (before_part + part_length)) both.0 in
    let long = and_parts (nat_lt most_whole size) (nat_le size most_entry) both.1 in
    (ltb-true _ _ long.0, ltb-true _ _ sizes.0, leb-true _ _ sizes.1)

module _ (setup : BoardFile) (at : Bus → Addresses) where
  abbrev F : Family
  F = family setup at

  -- the answers are the board's at its records, which none of them changes
  gave : (k : Key) (r : Records) (before bodies : List (List ℕ)) (b c : State) → b.records ≡ r → SeriesAnswered F (answer setup) (Reads k) before bodies b c → AreAnswered F.words (GaveAnswer F r) (Reads k) before bodies
  gave k r before [] b c same h = tt
  gave k r before (body ∷ bodies) b c same h =
      let a = answer setup b h.0 in
      let row = has_answer setup b h.0 in
      let kept = (is_family setup at).parts_keep b a.1 k h.0 a.0 (is_of F.words (Reads k) before h.0 h.1) row in
      (h.0, h.1, (b, a.1, same, subst (λ (x : Answered). F.Row b h.0 x a.1) h.2 row), gave k r (before ++ body ∷ []) bodies a.1 c (kept ∙ same) h.3)

  gave_all : (k : Key) (bodies : List (List ℕ)) (b c : State) → AnswersAll F (answer setup) (Reads k) bodies b c → AllAnswered F.words (GaveAnswer F b.records) (Reads k) bodies
  gave_all k bodies b c h = record { in_order = gave k b.records [] bodies b c refl h.replied; some = h.some; no_more = h.no_more }

  -- how many bytes of the entry they show
  sized : (handle : ℕ) (before : List (List ℕ)) (x : List ℕ) (xs : List (List ℕ)) (b c : State) → SeriesAnswered F (answer setup) (Reads (key.BiosAttribute handle)) before (x ∷ xs) b c
      → length (flat_map entry_in (x ∷ xs)) ≡ part_length * length xs + (length (last_of (x ∷ xs)) - before_part)
  sized handle before x [] b c h =
      let all = length-append (entry_in x) [] in
      let here = length-drop before_part x in
      omega (arith, all, here)
  sized handle before x (y ∷ ys) b c h =
      let k = Reads (key.BiosAttribute handle) in
      let rest = sized handle (before ++ x ∷ []) y ys (answer setup b h.0).1 c h.3 in
      let raw = mapped (from_manager at) (next_after k (before ++ x ∷ [])) h.3.0 (next_behind F.words k before x h.3.0 h.3.1) in
      let full : length x ≡ before_part + part_length = ap (λ (l : List ℕ). length l) (sym (last_again before x)) ∙ full_part handle (before ++ x ∷ []) raw.0 raw.1 in
      let all = length-append (entry_in x) (flat_map entry_in (y ∷ ys)) in
      let here = length-drop before_part x in
      omega (arith, rest, full, all, here)

  -- ---- an attribute

  module _ (handle : ℕ) (own : AttributeLimits) (value : List ℕ) where
    abbrev shown : List ℕ
    shown = attribute_view own value

    abbrev entry : List ℕ
    entry = entry_in shown

    whole_count : goes_whole entry ≡ true → parts_of entry ≡ 1
    whole_count t = ap (λ (w : Bool). cond w 1 ((length entry + 191) / 192)) t

    -- one reply shows a short entry
    one_part : (body : List ℕ) → body ≡ first_part shown → body ≡ shown → 1 ≡ parts_of entry
    one_part body first all = by (goes_whole entry) refl first
      where
        by : (t : Bool) → goes_whole entry ≡ t → body ≡ cond t shown (part_with (next_handle entry 0) entry 0) → 1 ≡ parts_of entry
        by true t is = sym (whole_count t)
        by false t is =
            let long : most_whole < length entry = grind (arith, nat_tests) in
            let some = length-take part_length (drop 0 entry) in
            let size : length (part_with (next_handle entry 0) entry 0) ≡ length shown = ap (λ (l : List ℕ). length l) (sym is ∙ all) in
            absurd (omega (arith, long, some, size))

    -- several show a long one
    more_parts : (x y : List ℕ) (ys : List (List ℕ)) (b c : State) → SeriesAnswered F (answer setup) (Reads (key.BiosAttribute handle)) [] (x ∷ y ∷ ys) b c → joined (x ∷ y ∷ ys) ≡ shown → length (x ∷ y ∷ ys) ≡ parts_of entry
    more_parts x y ys b c h all = by (ends (length (x ∷ y ∷ ys)) (last_of (x ∷ y ∷ ys))) refl all
      where
        by : (t : Bool) → ends (length (x ∷ y ∷ ys)) (last_of (x ∷ y ∷ ys)) ≡ t → cond t (no_handle ++ start_and_end ∷ flat_map entry_in (x ∷ y ∷ ys)) [] ≡ shown → length (x ∷ y ∷ ys) ≡ parts_of entry
        by true t is =
            let bodies = x ∷ y ∷ ys in
            let last = last_of bodies in
            let before = length (y ∷ ys) in
            let n = length bodies in
            let bounds = ended n last t in
            let one = bounds.0 in
            let two = bounds.1 in
            let three = bounds.2 in
            let total = sized handle [] x (y ∷ ys) b c h in
            let same : length entry ≡ length (flat_map entry_in bodies) = ap (λ (l : List ℕ). length (entry_in l)) (sym is) in
            let long : most_whole < length entry = omega (arith, one, total, same) in
            let above : part_length * before < length entry = omega (arith, total, same, two) in
            let below : length entry ≤ part_length * n = omega (arith, total, same, three) in
            count_long entry n long (rounded_up (length entry) before n (omega arith) above below)
        by false t is = absurd cc

    module _ (r : Records) (there : limits_at setup (key.BiosAttribute handle) ≡ Some (limits.BiosAttribute own)) (found : r (key.BiosAttribute handle) ≡ Some value) where
      first_is : (body : List ℕ) → Shown (limits_at setup (key.BiosAttribute handle)) (r (key.BiosAttribute handle)) body → body ≡ first_part shown
      first_is body s =
          let same : s.limits ≡ limits.BiosAttribute own = same_Some _ _ (sym s.at ∙ there) in
          let here : s.value ≡ value = same_Some _ _ (sym s.found ∙ found) in
          s.shows ∙ (λ i. first_shown (same i) (view (same i) (here i) s.live))

      counted : (bodies : List (List ℕ)) (b c : State) → b.records ≡ r → AnswersAll F (answer setup) (Reads (key.BiosAttribute handle)) bodies b c → AllAnswered F.words (GaveAnswer F r) (Reads (key.BiosAttribute handle)) bodies
          → shown_by (key.BiosAttribute handle) bodies ≡ shown → length bodies ≡ parts_of entry
      counted [] b c at_r h all is = absurd (h.some refl)
      counted (x ∷ []) b c at_r h all is =
          one_part x (first_is x (first_given setup at r (key.BiosAttribute handle) all.in_order.0 x all.in_order.1 all.in_order.2)) (by (is_whole x) is)
        where
          by : (t : Bool) → cond t x [] ≡ shown → x ≡ shown
          by true all = all
          by false none = absurd cc
      counted (x ∷ y ∷ ys) b c at_r h all is = more_parts x y ys b c h.replied is

-- ---- each record

found_alone : {X : Type 0} (given : X → Limits) (o : Option X) (v : Option (List ℕ)) → ((x : X) → get_count (Some (given x)) v ≡ 1) → get_count (option_map given o) v ≡ 1
found_alone given None v all = refl
found_alone given (Some x) v all = all x

-- a record that isn't an attribute's is got by one request
abbrev pub IsGotAlone : BoardFile → Key → Type 0
IsGotAlone setup k = ((body : List ℕ) (bodies : List (List ℕ)) → next_after (Reads k) (body ∷ bodies) ≡ None) × ((v : Option (List ℕ)) → get_count (limits_at setup k) v ≡ 1)

alone_by : {X : Type 0} (setup : BoardFile) (k : Key) (given : X → Limits) (found : Option X) → ((body : List ℕ) (bodies : List (List ℕ)) → next_after (Reads k) (body ∷ bodies) ≡ None) → ((x : X) (v : Option (List ℕ)) → get_count (Some (given x)) v ≡ 1)
    → limits_at setup k ≡ option_map given found → IsGotAlone setup k
alone_by setup k given found none one is = (none, λ v. ap (λ (l : Option Limits). get_count l v) is ∙ found_alone given found v (λ x. one x v))

pub got_alone : (setup : BoardFile) (k : Key) → IsGotAlone setup k ⊎ ((handle : ℕ) × (k ≡ key.BiosAttribute handle))
got_alone setup key.PowerPolicy = inl (λ b bs. refl, λ v. refl)
got_alone setup key.Watchdog = inl (λ b bs. refl, λ v. refl)
got_alone setup key.GlobalEnables = inl (λ b bs. refl, λ v. refl)
got_alone setup (key.BootParam parameter) = inl (λ b bs. refl, λ v. refl)
got_alone setup (key.BiosAttribute handle) = inr (handle, refl)
got_alone setup k = inl (alone_by setup k _ _ (λ b bs. refl) (λ x v. refl) refl)

-- what a Get of an attribute shows
record ShowsEntry (limits_are : Option Limits) (value body : List ℕ) : Type 0 where
  own : AttributeLimits
  there : limits_are ≡ Some (limits.BiosAttribute own)
  is : body ≡ attribute_view own value

shows_entry : (handle : ℕ) (found : Option Attribute) (value body : List ℕ) → let given : Option Limits = option_map (λ a. limits.BiosAttribute (record { handle = handle; read_only = a.read_only; range = range_of a.kind })) found in
    ShowsWithin given value body → ShowsEntry given value body
shows_entry handle None value body shows = absurd shows
shows_entry handle (Some a) value body shows = record { own = record { handle = handle; read_only = a.read_only; range = range_of a.kind }; there = refl; is = shows.1 }

module _ (setup : BoardFile) (names : Names) where
  abbrev Board : Family
  Board = family setup (addresses names)

  pub gets_by : (k : Key) → IsGotAlone setup k ⊎ ((handle : ℕ) × (k ≡ key.BiosAttribute handle)) → (bodies : List (List ℕ)) (b c : State) → AllValid Board b.records → AnswersAll Board (answer setup) (Reads k) bodies b c
      → length bodies ≡ get_count (limits_at setup k) (b.records k)
  gets_by k (inl one) bodies b c valid h =
      alone_count setup (addresses names) (Reads k) (length bodies) one.0 (was_next setup (addresses names) (Reads k) bodies b c h) ∙ sym (one.1 (b.records k))
  gets_by k (inr is) bodies b c valid h =
      subst (λ (q : Key). length bodies ≡ get_count (limits_at setup q) (b.records q)) (sym is.1)
      (of_attribute is.0 (subst (λ (q : Key). AnswersAll Board (answer setup) (Reads q) bodies b c) is.1 h))
    where
      of_attribute : (handle : ℕ) → AnswersAll Board (answer setup) (Reads (key.BiosAttribute handle)) bodies b c → length bodies ≡ get_count (limits_at setup (key.BiosAttribute handle)) (b.records (key.BiosAttribute handle))
      of_attribute handle h =
          let k = key.BiosAttribute handle in
          let all = gave_all setup (addresses names) k bodies b c h in
          let s : ShownRecord Board k (shown_by k bodies) b.records = (is_family setup (addresses names)).parts_show b.records k bodies valid all in
          let e = shows_entry handle (attribute_at setup.attributes.items handle) s.value (shown_by k bodies) s.shows in
          counted setup (addresses names) handle e.own s.value b.records e.there s.found bodies b c refl h all e.is
          ∙ sym (let same : get_count (limits_at setup k) (b.records k) ≡ get_count (Some (limits.BiosAttribute e.own)) (Some s.value) = λ i. get_count (e.there i) (s.found i) in same)

  pub takes_parts : TakesParts setup names
  takes_parts = record {
    gets = λ k bodies b c valid h. gets_by k (got_alone setup k) bodies b c valid h;
    sets = λ o bodies b c h. set_counted setup (addresses names) (set_whole o) bodies b c h;
  }

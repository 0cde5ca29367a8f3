-- The replies to the manager's Get show the record together.
use Rattle.std.proofs.Common.{◌≡◌, ◌≢◌, ◌⊎◌, inl, inr, ℕ, suc, ◌*◌, ◌<◌, ◌≤◌, Bool, true, false, List, [], ◌∷◌, ◌++◌, length, Option, Some, None, refl, sym, ◌∙◌, ap, subst, if◌then◌else◌, arith}
use Rattle.std.specs.Prelude.{nat_lt, IfSome}
use Rattle.std.specs.Option.{option_map}
use Rattle.std.specs.List.{flat_map}
use Rattle.std.proofs.lemmas.Bool.{false≢true, and_parts, leb-false, ltb-true, ltb-false}
use Rattle.std.proofs.lemmas.Option.{none-some, same_Some}
use Rattle.std.proofs.lemmas.List.{length-append, take_all}
use Rattle.two_wire.specs.Codes.{success}
use Rattle.two_wire.specs.declared.Bus.{Bus}
use Rattle.record_base.specs.declared.key.Key.{Key}
use Rattle.record_base.specs.declared.key.Key.TheVariants as key
use Rattle.record_base.specs.declared.live.Live.{Live as LivePart}
use Rattle.record_base.specs.declared.message.Asked.{Asked}
use Rattle.record_base.specs.declared.message.Answered.{Answered as BoardAnswer}
use Rattle.record_base.specs.AttributeRangeLaws.{value_length}
use Rattle.cfg_records.specs.declared.board_file.BoardFile.{BoardFile}
use Rattle.cfg_records.specs.Records.{Records}
use Rattle.pldm_base.specs.Parts.{part_length, next_handle, most_whole, goes_whole, asked_of_entry}
use Rattle.bios_attr.specs.BiosAttribute.{attribute_view}
use Rattle.bios_attr.specs.declared.bios_attribute.AttributeLimits.{AttributeLimits}
use Rattle.bios_attr.specs.EntryParts.{get_next_part, most_entry, entry_in, part_with, no_handle, start_and_end, last_of, goes_on, ends, get_part, first_part}
use Rattle.undo_plans.specs.Showing.{is_whole, shown_by}
use Rattle.record_base.specs.Attribute.{range_of}
use Rattle.record_base.specs.declared.attribute.Attribute.{Attribute}
use Rattle.record_kinds.specs.Boards.{attribute_at}
use Rattle.record_kinds.specs.declared.limits.Limits.{Limits}
use Rattle.record_kinds.specs.declared.limits.Limits.TheVariants as limits
use Rattle.record_kinds.specs.Limits.{get_asked, view, limits_at}
use Rattle.record_kinds.specs.Series.{Reads, next_after, first_shown}
use Rattle.bmc_board.specs.Request.{Get, LaterPart}
use Rattle.bmc_board.specs.Replies.{refused, unknown_code}
use Rattle.bmc_board.specs.BiosTables.{part_answer}
use Rattle.bmc_board.specs.AttributeParts.{later_answer}
use Rattle.bmc_board.specs.Answer.{AnswerAndState, get_answer}
use Rattle.bmc_board.specs.Row.{Row}
use Rattle.bmc_board.proofs.Undone.{unknown_is_fault}
use Rattle.model_bus.specs.Answered.{Answered}
use Rattle.model_bus.specs.Addresses.{Addresses}
use Rattle.model_undo.specs.Words.{AreAnswered, AllAnswered}
use Rattle.model_undo.specs.Family.{AllValid, GaveAnswer}
use Rattle.model_undo.specs.IsFamily.{ShownRecord}
use Rattle.bmc_core.specs.Wires.{board_answer}
use Rattle.model_lab.specs.ManagerWords.{from_manager, manager_words}
use Rattle.model_lab.specs.Family.{AllowsBody, ShowsWithin, family}
use Rattle.model_lab.proofs.Parts.{shown_part, AreShown, together, ShowsLast, last_shown, goes, stops, IsLater, later_asked}
use Rattle.model_lab.proofs.Requests.{read_as, get_is_read, later_is_read}

-- what several replies show together, by whether the last of them is the last part
abbrev joined_by : Bool → List (List ℕ) → List ℕ
joined_by ended bodies = if ended then no_handle ++ start_and_end ∷ flat_map entry_in bodies else []

-- ---- which records one reply shows

-- no request is behind the first, and its reply shows what the record's kind shows
record IsOne (setup : BoardFile) (key : Key) : Type 0 where
  none_next : (bodies : List (List ℕ)) → next_after (Reads key) bodies ≡ None
  alone : (body : List ℕ) → shown_by key (body ∷ []) ≡ body
  all_shown : (limits : Limits) (body : List ℕ) → limits_at setup key ≡ Some limits → first_shown limits body ≡ body

given_shown : {X : Type 0} (given : X → Limits) (found : Option X) → ((x : X) (body : List ℕ) → first_shown (given x) body ≡ body) → (limits : Limits) (body : List ℕ) → option_map given found ≡ Some limits
    → first_shown limits body ≡ body
given_shown given None whole limits body is = absurd (none-some limits is)
given_shown given (Some x) whole limits body is = subst (λ (l : Limits). first_shown l body ≡ body) (same_Some _ _ is) (whole x body)

some_shown : (given limits : Limits) (body : List ℕ) → first_shown given body ≡ body → Some given ≡ Some limits → first_shown limits body ≡ body
some_shown given limits body whole is = subst (λ (l : Limits). first_shown l body ≡ body) (same_Some _ _ is) whole

by_found : {X : Type 0} (setup : BoardFile) (key : Key) (given : X → Limits) (found : Option X) → ((bodies : List (List ℕ)) → next_after (Reads key) bodies ≡ None)
    → ((body : List ℕ) → shown_by key (body ∷ []) ≡ body) → ((x : X) (body : List ℕ) → first_shown (given x) body ≡ body)
    → limits_at setup key ≡ option_map given found → IsOne setup key
by_found setup key given found none alone whole is = record { none_next = none; alone = alone; all_shown = λ l body at. given_shown given found whole l body (sym is ∙ at) }

by_some : (setup : BoardFile) (key : Key) (given : Limits) → ((bodies : List (List ℕ)) → next_after (Reads key) bodies ≡ None) → ((body : List ℕ) → shown_by key (body ∷ []) ≡ body)
    → ((body : List ℕ) → first_shown given body ≡ body) → limits_at setup key ≡ Some given → IsOne setup key
by_some setup key given none alone whole is = record { none_next = none; alone = alone; all_shown = λ l body at. some_shown given l body (whole body) (sym is ∙ at) }

one_or_attribute : (setup : BoardFile) (k : Key) → IsOne setup k ⊎ ((handle : ℕ) × (k ≡ key.BiosAttribute handle))
one_or_attribute setup key.PowerPolicy = inl (by_some setup key.PowerPolicy _ (λ bodies. refl) (λ body. refl) (λ body. refl) refl)
one_or_attribute setup key.Watchdog = inl (by_some setup key.Watchdog _ (λ bodies. refl) (λ body. refl) (λ body. refl) refl)
one_or_attribute setup key.GlobalEnables = inl (by_some setup key.GlobalEnables _ (λ bodies. refl) (λ body. refl) (λ body. refl) refl)
one_or_attribute setup (key.BootParam parameter) = inl (by_some setup (key.BootParam parameter) _ (λ bodies. refl) (λ body. refl) (λ body. refl) refl)
one_or_attribute setup (key.BiosAttribute handle) = inr (handle, refl)
one_or_attribute setup _ = inl (by_found setup _ _ _ (λ bodies. refl) (λ body. refl) (λ x body. refl) refl)

-- ---- the first reply

-- what a Get that was carried out shows
pub record Shown (limits_are : Option Limits) (value_is : Option (List ℕ)) (body : List ℕ) : Type 0 where
  pub limits : Limits
  pub at : limits_are ≡ Some limits
  pub value : List ℕ
  pub found : value_is ≡ Some value
  pub live : LivePart
  pub shows : body ≡ first_shown limits (view limits value live)

not_refused : {X : Type 0} (a : BoardAnswer) (unknown : ℕ) → unknown ≢ success → a ≡ refused unknown → a.code ≡ success → X
not_refused a unknown fault is carried = absurd (fault (sym (ap (λ (x : BoardAnswer). x.code) is) ∙ carried))

pub shown_where : (limits : Option Limits) (value : Option (List ℕ)) (live : LivePart) (unknown : ℕ) (a : BoardAnswer) → unknown ≢ success → a ≡ get_answer limits value live unknown → a.code ≡ success → Shown limits value a.body
shown_where (Some l) (Some v) live unknown a fault is carried = record { limits = l; at = refl; value = v; found = refl; live = live; shows = ap (λ (x : BoardAnswer). x.body) is }
shown_where (Some l) None live unknown a fault is carried = not_refused a unknown fault is carried
shown_where None (Some v) live unknown a fault is carried = not_refused a unknown fault is carried
shown_where None None live unknown a fault is carried = not_refused a unknown fault is carried

module _ (setup : BoardFile) (at : Bus → Addresses) (r : Records) where
  abbrev Given_here : Asked → Answered → Type 0
  Given_here asked a = GaveAnswer (family setup at) r asked a

  -- the answer that shows these data
  abbrev showing : List ℕ → Answered
  showing body = record { code = success; body = body }

  pub first_given : (k : Key) (asked : Asked) (body : List ℕ) → asked ≡ from_manager at (get_asked k) → Given_here asked (showing body) → Shown (limits_at setup k) (r k) body
  first_given k asked body is gave =
      let b = gave.0 in
      let row = read_as setup b (from_manager at (get_asked k)) (Get k) (board_answer (showing body)) gave.1 (get_is_read at k) (subst (λ (x : Asked). Row setup b x (board_answer (showing body)) gave.1) is gave.3) in
      subst (λ (v : Records). Shown (limits_at setup k) (v k) body) gave.2
      (shown_where (limits_at setup k) (b.records k) b.activity.live (unknown_code setup k) (board_answer (showing body)) (unknown_is_fault setup k) (ap (λ (g : AnswerAndState). g.0) row) refl)

  -- ---- a record that one reply shows

  one_shows : (k : Key) → IsOne setup k → (bodies : List (List ℕ)) → AllAnswered (manager_words at) Given_here (Reads k) bodies → ShownRecord (family setup at) k (shown_by k bodies) r
  one_shows k one [] h = absurd (h.some refl)
  one_shows k one (body ∷ []) h =
      let first = h.in_order in
      let s = first_given k first.0 body first.1 first.2 in
      let is : ShownRecord (family setup at) k body r =
      record { value = s.value; found = s.found; shows = subst (λ (l : Option Limits). ShowsWithin l s.value body) (sym s.at) (s.live, s.shows ∙ one.all_shown s.limits (view s.limits s.value s.live) s.at) } in
      subst (λ (shown : List ℕ). ShownRecord (family setup at) k shown r) (sym (one.alone body)) is
  one_shows k one (body ∷ other ∷ bodies) h =
      let second = h.in_order.3 in
      absurd (none-some second.0 (sym (ap (option_map (from_manager at)) (one.none_next (body ∷ []))) ∙ second.1))

  -- ---- an attribute

  module _ (handle : ℕ) (own : AttributeLimits) (value : List ℕ) (there : limits_at setup (key.BiosAttribute handle) ≡ Some (limits.BiosAttribute own)) (found : r (key.BiosAttribute handle) ≡ Some value) where
    abbrev entry : List ℕ
    entry = entry_in (attribute_view own value)

    -- the request behind these replies
    record AsksLater (bodies : List (List ℕ)) (asked : Asked) : Type 0 where
      is : asked ≡ from_manager at (get_part handle (part_length * length bodies))
      small : part_length * length bodies < most_entry

    asks_where : (bodies : List (List ℕ)) (asked : Asked) (t : Bool) → goes_on (length bodies) (last_of bodies) ≡ t
        → option_map (from_manager at) (if t then Some (get_part handle (part_length * length bodies)) else None) ≡ Some asked → AsksLater bodies asked
    asks_where bodies asked true e is = record { is = sym (same_Some _ _ is); small = ltb-true _ _ (and_parts _ _ (and_parts _ _ e).1).1 }
    asks_where bodies asked false e is = absurd (none-some asked is)

    -- the answer to it
    record TellsLater (offset : ℕ) (body : List ℕ) : Type 0 where
      shows : body ≡ part_with (next_handle entry offset) entry offset
      within : offset < length entry
      in_parts : goes_whole entry ≡ false

    told_where : (offset : ℕ) (a : BoardAnswer) (part : Option ℕ) → IfSome part (IsLater entry offset) → a ≡ part_answer entry part → a.code ≡ success → TellsLater offset a.body
    told_where offset a None h is carried = absurd (let code : a.code ≡ 2 = ap (λ (x : BoardAnswer). x.code) is in omega (arith, code, carried))
    told_where offset a (Some place) h is carried =
        record { shows = ap (λ (x : BoardAnswer). x.body) is ∙ ap (λ (n : ℕ). part_with (next_handle entry n) entry n) h.at; within = h.within; in_parts = h.in_parts }

    later_given : (bodies : List (List ℕ)) (asked : Asked) (body : List ℕ) → AsksLater bodies asked → Given_here asked (showing body) → TellsLater (part_length * length bodies) body
    later_given bodies asked body asks gave =
        let b = gave.0 in
        let offset = part_length * length bodies in
        let k = key.BiosAttribute handle in
        let row = read_as setup b (from_manager at (get_part handle offset)) (LaterPart handle offset) (board_answer (showing body)) gave.1 (later_is_read at handle offset (omega (arith, asks.small)))
        (subst (λ (x : Asked). Row setup b x (board_answer (showing body)) gave.1) asks.is gave.3) in
        let has : b.records k ≡ Some value = ap (λ (v : Records). v k) gave.2 ∙ found in
        let told : board_answer (showing body) ≡ part_answer entry (asked_of_entry entry get_next_part offset) =
        ap (λ (g : AnswerAndState). g.0) row ∙ (λ i. later_answer (there i) (has i) b.activity.live (unknown_code setup k) offset) in
        told_where offset (board_answer (showing body)) (asked_of_entry entry get_next_part offset) (later_asked entry offset) told refl

    -- each reply behind the first
    record AreLater (place : ℕ) (bodies : List (List ℕ)) : Type 0 where
      are : AreShown entry place bodies
      in_parts : bodies ≢ [] → goes_whole entry ≡ false

    rest_shown : (first : List ℕ) (before bodies : List (List ℕ)) → AreAnswered (manager_words at) Given_here (Reads (key.BiosAttribute handle)) (first ∷ before) bodies → AreLater (suc (length before)) bodies
    rest_shown first before [] h = record { are = tt; in_parts = λ some. absurd (some refl) }
    rest_shown first before (body ∷ bodies) h =
        let all = first ∷ before in
        let tells = later_given all h.0 body (asks_where all h.0 (goes_on (length all) (last_of all)) refl h.1) h.2 in
        let rest = rest_shown first (before ++ body ∷ []) bodies h.3 in
        let more : suc (length (before ++ body ∷ [])) ≡ suc (suc (length before)) = omega (arith, length-append before (body ∷ [])) in
        record { are = (tells.shows, tells.within, subst (λ (n : ℕ). AreShown entry n bodies) more rest.are); in_parts = λ some. tells.in_parts }

    abbrev shown : List ℕ
    shown = attribute_view own value

    ends_not : (bodies : List (List ℕ)) (t : Bool) → goes_on (length bodies) (last_of bodies) ≡ t → option_map (from_manager at) (if t then Some (get_part handle (part_length * length bodies)) else None) ≡ None → t ≡ false
    ends_not bodies true e none = absurd (none-some _ (sym none))
    ends_not bodies false e none = refl

    first_is_part : (body : List ℕ) → body ≡ first_part shown → goes_whole entry ≡ false → body ≡ shown_part entry 0
    first_is_part body is parts = is ∙ ap (λ (t : Bool). if t then shown else part_with (next_handle entry 0) entry 0) parts

    -- where the replies are parts
    in_parts_joined : length entry ≤ most_entry → goes_whole entry ≡ false → (body : List ℕ) (bodies : List (List ℕ)) → AreShown entry 0 (body ∷ bodies)
        → goes_on (suc (length bodies)) (last_of (body ∷ bodies)) ≡ false → shown_by (key.BiosAttribute handle) (body ∷ bodies) ≡ shown
    in_parts_joined short parts body bodies are stopped =
        by (nat_lt (part_length * suc last.place) (length entry)) refl
      where
        last : ShowsLast entry (suc (length bodies)) (last_of (body ∷ bodies))
        last =
            let found = last_shown entry 0 body bodies are in
            let same = found.before in
            record { place = found.place; before = omega arith; is = found.is; within = found.within }

        long : most_whole < length entry
        long = leb-false _ _ parts

        count : suc last.place ≡ suc (length bodies)
        count = last.before

        all_shown : (others : List (List ℕ)) → others ≡ bodies → length entry ≤ part_length * suc (length bodies) → ends (suc (length bodies)) (last_of (body ∷ bodies)) ≡ true → shown_by (key.BiosAttribute handle) (body ∷ others) ≡ shown
        all_shown [] same within ended = absurd (let none : 0 ≡ length bodies = ap (λ (l : List (List ℕ)). length l) same in omega (arith, none, within, long))
        all_shown (other ∷ others) same within ended =
            ap (λ (l : List (List ℕ)). joined_by (ends (suc (length l)) (last_of (body ∷ l))) (body ∷ l)) same
            ∙ ap (λ (t : Bool). joined_by t (body ∷ bodies)) ended
            ∙ ap (λ (l : List ℕ). no_handle ++ start_and_end ∷ l) (together entry 0 (body ∷ bodies) are ∙ take_all (part_length * suc (length bodies)) entry within)

        by : (t : Bool) → nat_lt (part_length * suc last.place) (length entry) ≡ t → shown_by (key.BiosAttribute handle) (body ∷ bodies) ≡ shown
        by true e =
            let on : goes_on (suc (length bodies)) (last_of (body ∷ bodies)) ≡ true =
            (λ i. goes_on (sym count i) (last.is i)) ∙ goes entry last.place short (ltb-true _ _ e) in
            absurd (false≢true (sym stopped ∙ on))
        by false e =
            let within : length entry ≤ part_length * suc last.place = ltb-false _ _ e in
            all_shown bodies refl (omega (arith, within, count)) ((λ i. ends (sym count i) (last.is i)) ∙ stops entry last.place short long last.within within)

    attribute_joined : length entry ≤ most_entry → (bodies : List (List ℕ)) → AllAnswered (manager_words at) Given_here (Reads (key.BiosAttribute handle)) bodies → shown_by (key.BiosAttribute handle) bodies ≡ shown
    attribute_joined short [] h = absurd (h.some refl)
    attribute_joined short (body ∷ bodies) h = by (goes_whole entry) refl bodies refl
      where
        first : Shown (limits_at setup (key.BiosAttribute handle)) (r (key.BiosAttribute handle)) body
        first = first_given (key.BiosAttribute handle) h.in_order.0 body h.in_order.1 h.in_order.2

        first_is : body ≡ first_part shown
        first_is =
            let same : first.limits ≡ limits.BiosAttribute own = same_Some _ _ (sym first.at ∙ there) in
            let here : first.value ≡ value = same_Some _ _ (sym first.found ∙ found) in
            first.shows ∙ (λ i. first_shown (same i) (view (same i) (here i) first.live))

        rest : AreLater 1 bodies
        rest = rest_shown body [] bodies h.in_order.3

        by : (t : Bool) → goes_whole entry ≡ t → (others : List (List ℕ)) → others ≡ bodies → shown_by (key.BiosAttribute handle) (body ∷ bodies) ≡ shown
        by true e [] same =
            let all : body ≡ shown = first_is ∙ ap (λ (t : Bool). if t then shown else part_with (next_handle entry 0) entry 0) e in
            let whole : is_whole shown ≡ true = e in
            ap (λ (l : List (List ℕ)). shown_by (key.BiosAttribute handle) (body ∷ l)) (sym same) ∙ ap (λ (b : List ℕ). shown_by (key.BiosAttribute handle) (b ∷ [])) all ∙ ap (λ (t : Bool). if t then shown else []) whole
        by true e (other ∷ others) same = absurd (false≢true (sym (rest.in_parts (λ none. cons≢nil (same ∙ none))) ∙ e))
          where
            cons≢nil : other ∷ others ≡ [] → ⊥
            cons≢nil e = absurd cc
        by false e others same =
            let size : most_whole < length entry = leb-false _ _ e in
            let all : List (List ℕ) = body ∷ bodies in
            in_parts_joined short e body bodies (first_is_part body first_is e, omega (arith, size), rest.are)
            (ends_not all (goes_on (length all) (last_of all)) refl h.no_more)

-- ---- both

attribute_limits : (setup : BoardFile) (handle : ℕ) (given : Limits) → limits_at setup (key.BiosAttribute handle) ≡ Some given → (own : AttributeLimits) × (given ≡ limits.BiosAttribute own)
attribute_limits setup handle given is = by (attribute_at setup.attributes.items handle) is
  where
    by : (found : Option Attribute) → option_map (λ a. limits.BiosAttribute (record { handle = handle; read_only = a.read_only; range = range_of a.kind })) found ≡ Some given → (own : AttributeLimits) × (given ≡ limits.BiosAttribute own)
    by None is = absurd (none-some given is)
    by (Some a) is = (record { handle = handle; read_only = a.read_only; range = range_of a.kind }, sym (same_Some _ _ is))

pub parts_show : (setup : BoardFile) (at : Bus → Addresses) (r : Records) (k : Key) (bodies : List (List ℕ)) → AllValid (family setup at) r → AllAnswered (manager_words at) (GaveAnswer (family setup at) r) (Reads k) bodies
    → ShownRecord (family setup at) k (shown_by k bodies) r
parts_show setup at r k bodies valid all = by (one_or_attribute setup k)
  where
    first_of_all : (handle : ℕ) (bodies : List (List ℕ)) → AllAnswered (manager_words at) (GaveAnswer (family setup at) r) (Reads (key.BiosAttribute handle)) bodies
        → (body : List ℕ) × Shown (limits_at setup (key.BiosAttribute handle)) (r (key.BiosAttribute handle)) body
    first_of_all handle [] h = absurd (h.some refl)
    first_of_all handle (body ∷ bodies) h = (body, first_given setup at r (key.BiosAttribute handle) h.in_order.0 body h.in_order.1 h.in_order.2)

    of_attribute : (handle : ℕ) → AllAnswered (manager_words at) (GaveAnswer (family setup at) r) (Reads (key.BiosAttribute handle)) bodies → ShownRecord (family setup at) (key.BiosAttribute handle) (shown_by (key.BiosAttribute handle) bodies) r
    of_attribute handle all =
        let k = key.BiosAttribute handle in
        let first = (first_of_all handle bodies all).1 in
        let own = attribute_limits setup handle first.limits first.at in
        let there : limits_at setup k ≡ Some (limits.BiosAttribute own.0) = first.at ∙ ap Some own.1 in
        let is_valid : AllowsBody (Some (limits.BiosAttribute own.0)) first.value = subst (λ (l : Option Limits). AllowsBody l first.value) there (valid k first.value first.found) in
        let size = value_length own.0.range first.value is_valid in
        let is : shown_by k bodies ≡ attribute_view own.0 first.value = attribute_joined setup at r handle own.0 first.value there first.found (omega (arith, size.most)) bodies all in
        record { value = first.value; found = first.found; shows = subst (λ (l : Option Limits). ShowsWithin l first.value (shown_by k bodies)) (sym there) (first.live, is) }

    by : IsOne setup k ⊎ ((handle : ℕ) × (k ≡ key.BiosAttribute handle)) → ShownRecord (family setup at) k (shown_by k bodies) r
    by (inl one) = one_shows setup at r k one bodies all
    by (inr is) =
        subst (λ (q : Key). ShownRecord (family setup at) q (shown_by q bodies) r) (sym is.1)
        (of_attribute is.0 (subst (λ (q : Key). AllAnswered (manager_words at) (GaveAnswer (family setup at) r) (Reads q) bodies) is.1 all))

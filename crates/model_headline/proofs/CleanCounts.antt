-- A series has at most six requests, so a plan takes few over a clean link.
use Rattle.std.proofs.Common.{◌≡◌, ℕ, ◌+◌, ◌*◌, ◌≤◌, Bool, true, false, cond, ◌&&◌, List, [], ◌∷◌, ◌++◌, length, Option, Some, None, refl, sym, ◌∙◌, ap, subst, arith, length-append, inl, inr}
use Rattle.std.specs.Prelude.{◌==◌, nat_le, nat_lt}
use Rattle.std.specs.Option.{option_map}
use Rattle.std.proofs.lemmas.Bool.Decides.{nat_tests}
use Rattle.std.proofs.lemmas.Option.{none-some}
use Rattle.two_wire.specs.declared.Bus.{Bus}
use Rattle.record_base.specs.declared.key.Key.{Key}
use Rattle.record_base.specs.declared.key.Key.TheVariants as key
use Rattle.record_base.specs.declared.op.Op.{Op}
use Rattle.record_base.specs.declared.op.Op.TheVariants as op
use Rattle.record_base.specs.declared.message.Asked.{Asked}
use Rattle.cfg_records.specs.declared.board_file.BoardFile.{BoardFile}
use Rattle.pldm_base.specs.Parts.{part_length, flag_of, flag_byte}
use Rattle.record_base.specs.Requests.{byte_at}
use Rattle.bios_attr.specs.BiosAttribute.{op_entry, attribute_body}
use Rattle.bios_attr.specs.EntryParts.{set_part, transfer_handle, before_part, most_entry, get_part, last_of, is_in_parts, part_at, with_body, request_at, alone_at}
use Rattle.record_kinds.specs.Limits.{key_of}
use Rattle.record_kinds.specs.Series.{Series, Reads, sends, set_whole, next_after}
use Rattle.bmc_board.specs.State.{State}
use Rattle.model_bus.specs.Addresses.{Addresses}
use Rattle.model_undo.specs.Words.{Words, IsNext, IsSeries}
use Rattle.model_undo.specs.declared.phase.Why.{Why}
use Rattle.model_undo.specs.declared.phase.Why.TheVariants.{Stop, Refused, NotRestorable, GetRefused}
use Rattle.model_undo.specs.declared.phase.Phase.{Phase}
use Rattle.model_undo.specs.Family.{Family}
use Rattle.model_undo.specs.CleanSeries.{SeriesAnswered, AnswersAll, RefusesOne, CarriesSeries, GoAll, HaltsSeries, EndsIn, AnswersEach}
use Rattle.model_lab.specs.ManagerWords.{from_manager, manager_words}
use Rattle.model_lab.specs.Family.{family, answer}
use Rattle.model_headline.specs.Made.{AllSeries}

-- ---- a series ends

none_fourth : (a b c d : Bool) → d ≡ false → (a && b && (c && d)) ≡ false
none_fourth true true true d e = e
none_fourth true true false d e = refl
none_fourth true false c d e = refl
none_fourth false b c d e = refl

reads_few : (k : Key) (bodies : List (List ℕ)) → 6 ≤ length bodies → next_after (Reads k) bodies ≡ None
reads_few (key.BiosAttribute handle) bodies many =
    let count = length bodies in
    let last = last_of bodies in
    let none : Option Asked = None in
    let past : nat_lt (part_length * count) most_entry ≡ false = grind (arith, nat_tests) in
    ap (λ (t : Bool). cond t (Some (get_part handle (part_length * count))) none)
    (none_fourth (byte_at last 4 == flag_byte (flag_of (count == 1) false)) (length last == before_part + part_length) (transfer_handle last == part_length * count) _ past)
reads_few _ bodies many = refl

alone_few : (asked : Asked) (place : ℕ) → 6 ≤ place → alone_at asked place ≡ None
alone_few asked place many =
    let none : Option Asked = None in
    let later : (place == 0) ≡ false = grind (arith, nat_tests) in
    ap (λ (t : Bool). cond t (Some asked) none) later

entry_few : (o : Op) (place : ℕ) → 6 ≤ place → request_at (set_whole o) place ≡ None
entry_few (op.BiosAttribute o) place many = by (is_in_parts (set_whole (op.BiosAttribute o)))
  where
    by : (t : Bool) → cond t (option_map (λ (body : List ℕ). with_body (set_whole (op.BiosAttribute o)) body) (part_at (attribute_body o) place)) (alone_at (set_whole (op.BiosAttribute o)) place) ≡ None
    by true =
        let none : Option (List ℕ) = None in
        let fits = o.fits in
        let past : nat_lt (part_length * place) (length (op_entry o)) ≡ false = grind (arith, nat_tests) in
        ap (λ (t : Bool). option_map (λ (body : List ℕ). with_body (set_whole (op.BiosAttribute o)) body) (cond t (Some (set_part (op_entry o) (part_length * place))) none)) past
    by false = alone_few (set_whole (op.BiosAttribute o)) place many
entry_few o place many = alone_few (set_whole o) place many

module _ (at : Bus → Addresses) where
  abbrev M : Words
  M = manager_words at

  next_none : (series : Series) → IsSeries M series → (bodies : List (List ℕ)) → 6 ≤ length bodies → next_after series bodies ≡ None
  next_none series (inl is) bodies many = subst (λ (s : Series). next_after s bodies ≡ None) (sym is.1) (reads_few is.0 bodies many)
  next_none series (inr is) bodies many = subst (λ (s : Series). next_after s bodies ≡ None) (sym is.1) (entry_few is.0 (length bodies) many)

  six : (series : Series) → IsSeries M series → (bodies : List (List ℕ)) → 6 ≤ length bodies → M.next series bodies ≡ None
  six series is bodies many = ap (option_map (from_manager at)) (next_none series is bodies many)

  next_below : (series : Series) → IsSeries M series → (before : List (List ℕ)) (asked : Asked) → IsNext M series before asked → length before ≤ 5
  next_below series made [] asked is = omega arith
  next_below series made (body ∷ before) asked is = by (nat_le 6 (length (body ∷ before))) refl
    where
      by : (t : Bool) → nat_le 6 (length (body ∷ before)) ≡ t → length (body ∷ before) ≤ 5
      by true t = absurd (none-some asked (sym (six series made (body ∷ before) (grind (arith, nat_tests))) ∙ is))
      by false t = grind (arith, nat_tests)

-- ---- what the board answers

module _ (setup : BoardFile) (at : Bus → Addresses) where
  abbrev F : Family
  F = family setup at

  replied_few : (series : Series) → IsSeries F.words series → (before bodies : List (List ℕ)) (b c : State) → SeriesAnswered F (answer setup) series before bodies b c → length before ≤ 6 → length before + length bodies ≤ 6
  replied_few series made before [] b c h few = omega (arith, few)
  replied_few series made before (body ∷ bodies) b c h few =
      let below = next_below at series made before h.0 h.1 in
      let long = length-append before (body ∷ []) in
      let rest = replied_few series made (before ++ body ∷ []) bodies _ c h.3 (omega (arith, below, long)) in
      omega (arith, rest, long)

  all_few : (series : Series) → IsSeries F.words series → (bodies : List (List ℕ)) (b c : State) → AnswersAll F (answer setup) series bodies b c → length bodies ≤ 6
  all_few series made bodies b c h = let few = replied_few series made [] bodies b c h.replied (omega arith) in omega (arith, few)

  one_few : (series : Series) → IsSeries F.words series → (code n : ℕ) (b : State) → RefusesOne F (answer setup) series code n b → n ≤ 6
  one_few series made code n b h = let below = next_below at series made h.bodies h.asked h.is_next in let all = h.counted in omega (arith, below, all)

  abbrev get_of : Op → Series
  get_of o = Reads (key_of o)

  gets_made : (o : Op) → IsSeries F.words (get_of o)
  gets_made o = inl (key_of o, refl)

  sets_made : (o : Op) → IsSeries F.words (sends o)
  sets_made o = inr (o, refl)

  goes_few : (b : State) (o : Op) (n : ℕ) (c : State) → CarriesSeries F (answer setup) b o n c → n ≤ 12
  goes_few b o n c g =
      let got = all_few (get_of o) (gets_made o) g.got b g.mid g.read in
      let put = all_few (sends o) (sets_made o) g.put g.mid c g.done in
      let all = g.counted in
      omega (arith, got, put, all)

  -- the steps take at most twelve requests each
  pub steps_few : (steps : List Op) (n : ℕ) (b c : State) → GoAll F (answer setup) steps n b c → n ≤ 12 * length steps
  steps_few [] n b c g = let none = g.1 in omega (arith, none)
  steps_few (o ∷ os) n b c g =
      let first = goes_few b o g.1 g.0 g.3 in
      let rest = steps_few os g.2 g.0 c g.4 in
      let all = g.5 in
      omega (arith, first, rest, all)

  -- and so does the step at which a plan halts
  pub more_few : (i : ℕ) (ops : List Op) (b : State) (phase : Phase) (n : ℕ) → EndsIn F (answer setup) i ops b phase n → n ≤ 12
  more_few i [] b phase n e = let none = e.1 in omega (arith, none)
  more_few i (o ∷ os) b phase n e = by e.0 e.1
    where
      by : (why : Why) → HaltsSeries F (answer setup) b o why n → n ≤ 12
      by Stop s = absurd s
      by (GetRefused code) s = let one = one_few (get_of o) (gets_made o) code n b s in omega (arith, one)
      by NotRestorable s = let few = all_few (get_of o) (gets_made o) s.0 b s.1 s.2 in let all = s.4 in omega (arith, few, all)
      by (Refused code) s =
          let got = all_few (get_of o) (gets_made o) s.got b s.mid s.read in
          let put = one_few (sends o) (sets_made o) code s.sets s.mid s.refuses in
          let all = s.counted in
          omega (arith, got, put, all)

  -- what undoes takes at most six requests a step
  pub each_few : (list : List Series) → AllSeries at list → (n : ℕ) (b c : State) → AnswersEach F (answer setup) list n b c → n ≤ 6 * length list
  each_few [] made n b c h = let none = h.1 in omega (arith, none)
  each_few (series ∷ more) made n b c h =
      let first = all_few series made.0 h.0 b h.1 h.3 in
      let rest = each_few more made.1 h.2 h.1 c h.4 in
      let all = h.5 in
      omega (arith, first, rest, all)

-- The lines of a text, and the events that they say.
use Rattle.std.proofs.Common.{◌≡◌, ◌⊎◌, inl, inr, ◌∷◌, ◌++◌, [], List, ℕ, zero, suc, ◌+◌, ◌<◌, Bool, true, false, not, if◌then◌else◌, Some, Result, Ok, Err, is_ok, is_err, option_map, map, take, length, get_or, slice_get, refl, ◌∙◌, ap, subst, arith}
use Rattle.std.proofs.lemmas.Bool.{cases_lt}
use Rattle.std.proofs.lemmas.List.{take_more, take-map, map-append}
use Rattle.std.proofs.lemmas.Option.{slice_get-map, slice_get-get_or}
use Rattle.std.proofs.lemmas.List.Elements.{filter-append}
use Rattle.std.proofs.lemmas.Slice.Zip.{all_zipped_more}
use Rattle.std.specs.List.{AllZip}
use Rattle.std.specs.Borrow.{Bor}
use Rattle.text_lines.specs.declared.event.Event.{Event}
use Rattle.text_lines.specs.ScheduleText.{words_of}
use Rattle.text_lines.specs.EventLine.{IsLineOf}
use Rattle.text_lines.specs.Schedule.{is_skipped, spoken, AreLinesOf, IsBad, IsFirstBad}
use Rattle.text_lines.specs.Reads.{ReadsLine}
use Rattle.text_lines.specs.declared.event_line.LineFault.{LineFault}
use Rattle.text_lines.specs.declared.event_line.LineFault.TheVariants.{Bad}
use Rattle.text_lines.proofs.Once.{one_event}

-- ---- laws

-- lines say one list of events
pub one_list : (lines : List (List ℕ)) (events others : List Event) → AllZip IsLineOf lines events → AllZip IsLineOf lines others → events ≡ others
one_list [] [] [] told also = refl
one_list [] [] (o ∷ others) told also = absurd also
one_list [] (e ∷ events) others told also = absurd told
one_list (l ∷ lines) [] others told also = absurd told
one_list (l ∷ lines) (e ∷ events) [] told also = absurd also
one_list (l ∷ lines) (e ∷ events) (o ∷ others) told also =
    let first : e ≡ o = one_event (words_of l) e o told.0 also.0 in
    let rest = one_list lines events others told.1 also.1 in
    cc (first, rest)

-- a line that isn't skipped, among those that say events, says one
said_here : (l : List ℕ) (lines : List (List ℕ)) (skipped : Bool) (events : List Event) → AllZip IsLineOf (if not skipped then l ∷ spoken lines else spoken lines) events
    → (skipped ≡ true) × AllZip IsLineOf (spoken lines) events ⊎ ((e : Event) × (rest : List Event) × IsLineOf l e × AllZip IsLineOf (spoken lines) rest × (skipped ≡ false))
said_here l lines true events told = inl (refl, told)
said_here l lines false [] told = absurd told
said_here l lines false (e ∷ events) told = inr (e, events, told.0, told.1, refl)

pub said_at : (lines : List (List ℕ)) (events : List Event) (place : ℕ) (line : List ℕ) → AreLinesOf lines events → slice_get lines place ≡ Some line → ¬ IsBad line
said_at [] events place line told is bad = cc is
said_at (l ∷ lines) events zero line told is bad =
    let same : l ≡ line = cc is in
    elim (said_here l lines (is_skipped l) events told) [
      | inl here ↦ (let skipped = here.0 in let spoken = bad.spoken in cc (same, skipped, spoken))
      | inr here ↦ bad.nothing here.0 (subst (λ x. IsLineOf x here.0) same here.2)
    ]
said_at (l ∷ lines) events (suc place) line told is bad =
    elim (said_here l lines (is_skipped l) events told) [
      | inl here ↦ said_at lines events place line here.1 is bad
      | inr here ↦ said_at lines here.1 place line here.3 is bad
    ]

-- there is one first bad line
pub one_first : (lines : List (List ℕ)) (number other : ℕ) → IsFirstBad lines number → IsFirstBad lines other → number ≡ other
one_first lines number other one two =
    elim (cases_lt one.place two.place) [
      | inl before ↦ absurd (two.first one.place one.line before one.there one.bad)
      | inr behind ↦ elim (cases_lt two.place one.place) [
        | inl before ↦ absurd (one.first two.place two.line before two.there two.bad)
        | inr ahead ↦ (let m = one.counted in let n = two.counted in omega (arith, m, n, behind, ahead))
      ]
    ]

-- ---- the reader's loop

-- what stands before a place stands in the list
earlier : {A : Type 0} (xs : List A) (i k : ℕ) (x : A) → k < i → slice_get xs k ≡ Some x → slice_get (take i xs) k ≡ Some x
earlier [] i k x before is = cc is
earlier (y ∷ xs) zero k x before is = absurd (omega (arith, before))
earlier (y ∷ xs) (suc i) zero x before is = is
earlier (y ∷ xs) (suc i) (suc k) x before is = earlier xs i k x (omega (arith, before)) is

-- an event that was put behind others
pub pushed : {A E : Type 0} (r : Result A E) (new old : List Event) (e : Event) → new ≡ (if is_ok r then old ++ e ∷ [] else old) → false ≡ is_err r → new ≡ old ++ e ∷ []
pushed (Ok a) new old e is fine = is
pushed (Err why) new old e is fine = cc fine

-- what says no event
pub refused : (So : Event → Type 0) (r : Result Event LineFault) (why : LineFault) → ReadsLine So r → r ≡ Err why → why ≡ Bad → (e : Event) → ¬ So e
refused So r why reads is bad = subst (ReadsLine So) (is ∙ ap Err bad) reads

module _ (lines : List (Bor (List ℕ))) (place : ℕ) (d : Bor (List ℕ)) (within : place < length lines) where
  abbrev line : Bor (List ℕ)
  line = get_or lines place d

  abbrev said : List (Bor (List ℕ)) → List (List ℕ)
  said xs = map (λ x. x.now) xs

  more : said (take (place + 1) lines) ≡ said (take place lines) ++ line.now ∷ []
  more = rw (take_more lines place d within, map-append)

  spoken_more : spoken (said (take (place + 1) lines)) ≡ spoken (said (take place lines)) ++ spoken (line.now ∷ [])
  spoken_more = ap spoken more ∙ filter-append (λ l. not (is_skipped l)) (said (take place lines)) (line.now ∷ [])

  pub next_said : (events : List Event) (e : Event) → AreLinesOf (said (take place lines)) events → is_skipped line.now ≡ false → IsLineOf line.now e
      → AreLinesOf (said (take (place + 1) lines)) (events ++ e ∷ [])
  next_said events e told spoke says = rw (spoken_more, spoke) (all_zipped_more IsLineOf (spoken (said (take place lines))) events line.now e told says)

  -- where the line is bad, it's the first
  pub bad_first : (events : List Event) → AreLinesOf (said (take place lines)) events → IsBad line.now → IsFirstBad (said lines) (place + 1)
  bad_first events told bad = record {
    place = place;
    line = line.now;
    counted = refl;
    there = slice_get-map (λ (x : Bor (List ℕ)). x.now) lines place ∙ ap (option_map (λ (x : Bor (List ℕ)). x.now)) (slice_get-get_or lines place d within);
    bad = bad;
    first = λ before other less at. said_at (said (take place lines)) events before other told
        (subst (λ xs. slice_get xs before ≡ Some other) (take-map (λ (x : Bor (List ℕ)). x.now) place lines) (earlier (said lines) place before other less at));
  }

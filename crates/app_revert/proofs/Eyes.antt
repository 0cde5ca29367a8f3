-- Looks at records, one after another.
use Rattle.std.proofs.Common.{◌≡◌, ◌∙◌, ◌⊎◌, ◌+◌, ◌<◌, ◌≤◌, ◌++◌, ℕ, suc, zero, List, [], ◌∷◌, Option, Some, None, ap, append-nil, append_assoc, arith, get_or, inl, inr, length, refl, subst, sym, take}
use Rattle.std.specs.List.{slice_get}
use Rattle.std.proofs.lemmas.List.{take_all, take_more}
use Rattle.std.proofs.lemmas.Option.{same_Some, slice_get_cases}
use Rattle.record_base.specs.declared.key.Key.{Key}
use Rattle.record_base.specs.declared.message.Asked.{Asked}
use Rattle.app_look.specs.declared.look_driver.LookEnd.{LookEnd}
use Rattle.app_look.specs.declared.look_driver.LookEnd.TheVariants.{Shown, Refused, Silent}
use Rattle.app_revert.specs.declared.looking.Eye.{Eye}
use Rattle.app_revert.specs.declared.looking.Looked.{Looked}
use Rattle.app_revert.specs.Looks.{EyeLooksAt, LooksBy, LooksEach, LooksOn, LooksOnce, LooksOnceAt, begun_at, goes_on_at}

-- ---- one record

-- So many calls to go on are left. Whatever comes of the eye in those came of the first.
pub record LooksFrom (agains : ℕ) (key : Key) (before : Eye) (more : ℕ) (end : LookEnd) (at : Eye) : Type 0 where
  pub rest : (last : Eye) → LooksOn more end at last → EyeLooksAt agains key before last

-- the Get was begun
pub begins_look : (agains more : ℕ) (key : Key) (before at : Eye) (end : LookEnd) → more ≡ agains → LooksBy (begun_at key before) before end at
    → LooksFrom agains key before more end at
begins_look agains more key before at end same begun = record {
  rest = λ last on. (at, end, begun, subst (λ (n : ℕ). LooksOn n end at last) same on);
}

-- it went on
pub goes_on : (agains more less : ℕ) (key : Key) (before at mid : Eye) (end next : LookEnd) → more ≡ suc less → end ≡ Silent → LooksFrom agains key before more end at
    → LooksBy (goes_on_at at) at next mid → LooksFrom agains key before less next mid
goes_on agains more less key before at mid end next some silent from on = record {
  rest = λ last then. from.rest last (subst (λ (n : ℕ). LooksOn n end at last) (sym some)
      (subst (λ (e : LookEnd). LooksOn (suc less) e at last) (sym silent) (mid, next, on, then)));
}

-- nothing more is done where it was answered
answered_on : (more : ℕ) (end : LookEnd) (at : Eye) → (end ≡ Silent → ⊥) → LooksOn more end at at
answered_on zero Shown at other = refl
answered_on zero Refused at other = refl
answered_on zero Silent at other = refl
answered_on (suc more) Shown at other = refl
answered_on (suc more) Refused at other = refl
answered_on (suc more) Silent at other = absurd (other refl)

pub answered : (agains more : ℕ) (key : Key) (before at : Eye) (end : LookEnd) → LooksFrom agains key before more end at → (end ≡ Silent → ⊥) → EyeLooksAt agains key before at
answered agains more key before at end from other = from.rest at (answered_on more end at other)

-- ---- each record

-- others behind them
each_both : (agains : ℕ) (earlier first later : List Asked) (a : Eye) (s : Looked) (b : Eye) (t : Looked) (c : Eye) (u : Looked) → LooksEach agains earlier first a s b t
    → LooksEach agains (earlier ++ first) later b t c u → LooksEach agains earlier (first ++ later) a s c u
each_both agains earlier [] later a s b t c u (eye, told) rest =
    subst (λ (e : List Asked). LooksEach agains e later a s c u) (append-nil earlier)
    (subst (λ (x : Eye). LooksEach agains (earlier ++ []) later x s c u) eye (subst (λ (x : Looked). LooksEach agains (earlier ++ []) later b x c u) told rest))
each_both agains earlier (request ∷ first) later a s b t c u (mid, so, once, each) rest = (
  mid,
  so,
  once,
  each_both agains (earlier ++ request ∷ []) first later mid so b t c u each
      (subst (λ (e : List Asked). LooksEach agains e later b t c u) (sym (append_assoc earlier (request ∷ []) first)) rest),
)

pub each_all : (agains : ℕ) (first later : List Asked) (a : Eye) (s : Looked) (b : Eye) (t : Looked) (c : Eye) (u : Looked) → LooksEach agains [] first a s b t
    → LooksEach agains first later b t c u → LooksEach agains [] (first ++ later) a s c u
each_all agains first later a s b t c u each rest = each_both agains [] first later a s b t c u each rest

-- one behind them
each_once : (agains : ℕ) (earlier : List Asked) (request : Asked) (a : Eye) (s : Looked) (b : Eye) (t : Looked) → LooksOnce agains earlier request a s b t
    → LooksEach agains earlier (request ∷ []) a s b t
each_once agains earlier request a s b t once = (b, t, once, (refl, refl))

-- the one of the next place, if there is one
pub each_more : (agains : ℕ) (requests : List Asked) (n : ℕ) (a : Eye) (s : Looked) (b : Eye) (t : Looked) (c : Eye) (u : Looked) → LooksEach agains [] (take n requests) a s b t
    → LooksOnceAt agains (take n requests) (slice_get requests n) b t c u → LooksEach agains [] (take (n + 1) requests) a s c u
each_more agains requests n a s b t c u each once = by (slice_get_cases requests n).1
  where
    by : ((x : Asked) × (n < length requests) × (slice_get requests n ≡ Some x) × (get_or requests n x ≡ x)) ⊎ ((length requests ≤ n) × (slice_get requests n ≡ None))
        → LooksEach agains [] (take (n + 1) requests) a s c u
    by (inl (x, below, got, is)) =
        subst (λ (all : List Asked). LooksEach agains [] all a s c u) (sym (take_more requests n x below ∙ ap (λ (y : Asked). take n requests ++ y ∷ []) is))
        (each_all agains (take n requests) (x ∷ []) a s b t c u each
        (each_once agains (take n requests) x b t c u (subst (λ (found : Option Asked). LooksOnceAt agains (take n requests) found b t c u) got once)))
    by (inr (past, none)) =
        let same = subst (λ (found : Option Asked). LooksOnceAt agains (take n requests) found b t c u) none once in
        subst (λ (all : List Asked). LooksEach agains [] all a s c u) (take_all n requests past ∙ sym (take_all (n + 1) requests (omega (arith, past))))
        (subst (λ (x : Eye). LooksEach agains [] (take n requests) a s x u) (sym same.0) (subst (λ (x : Looked). LooksEach agains [] (take n requests) a s b x) (sym same.1) each))

-- the one request that may be in doubt
pub doubt_once : (agains : ℕ) (earlier doubt : List Asked) (request : Asked) (a : Eye) (s : Looked) (b : Eye) (t : Looked) → length doubt ≤ 1 → slice_get doubt 0 ≡ Some request
    → LooksOnce agains earlier request a s b t → LooksEach agains earlier doubt a s b t
doubt_once agains earlier [] request a s b t few got once = let both : None ≡ Some request = got in cc both
doubt_once agains earlier (one ∷ []) request a s b t few got once =
    each_once agains earlier one a s b t (subst (λ (x : Asked). LooksOnce agains earlier x a s b t) (sym (same_Some one request got)) once)
doubt_once agains earlier (one ∷ other ∷ more) request a s b t few got once =
    let none : ⊥ = omega (arith, few) in absurd none

-- the earlier ones are all of a list
pub behind_all : (agains : ℕ) (earlier doubt : List Asked) (count : ℕ) (request : Asked) (a : Eye) (s : Looked) (b : Eye) (t : Looked) → count ≡ length earlier → length doubt ≤ 1
    → slice_get doubt 0 ≡ Some request → LooksOnce agains (take count earlier) request a s b t → LooksEach agains earlier doubt a s b t
behind_all agains earlier doubt count request a s b t all few got once =
    doubt_once agains earlier doubt request a s b t few got
    (subst (λ (before : List Asked). LooksOnce agains before request a s b t) (take_all count earlier (omega (arith, all))) once)

pub no_doubt : (agains : ℕ) (earlier doubt : List Asked) (a : Eye) (s : Looked) → slice_get doubt 0 ≡ None → LooksEach agains earlier doubt a s a s
no_doubt agains earlier [] a s none = (refl, refl)
no_doubt agains earlier (one ∷ more) a s none = let both : Some one ≡ None = none in cc both

-- all are behind the loop
pub each_there : (agains : ℕ) (requests : List Asked) (n : ℕ) (a : Eye) (s : Looked) (b : Eye) (t : Looked) → length requests ≤ n → LooksEach agains [] (take n requests) a s b t
    → LooksEach agains [] requests a s b t
each_there agains requests n a s b t all each = subst (λ (rs : List Asked). LooksEach agains [] rs a s b t) (take_all n requests all) each

-- Which records were asked for, one part behind another.
use Rattle.std.specs.Prelude.{get_or, max, map, is_none}
use Rattle.std.proofs.Common.{◌≡◌, ◌∙◌, ◌⊎◌, inl, inr, ◌+◌, ◌-◌, ◌<◌, ◌≤◌, ◌++◌, ℕ, zero, suc, Bool, true, false, List, [], ◌∷◌, Option, None, length, take, drop, refl, sym, ap, subst, append_assoc, arith}
use Rattle.std.proofs.lemmas.List.{append-nil, map-append, take_more, take-append-drop}
use Rattle.std.proofs.lemmas.Bool.{cases_lt}
use Rattle.record_base.specs.declared.key.Key.{Key}
use Rattle.record_base.specs.declared.key.Key.TheVariants.{BiosAttribute}
use Rattle.app_show.specs.declared.keys.IdRange.{IdRange}
use Rattle.app_show.specs.Keys.{access_key, channels, effecter_keys, later_access_keys, name_keys, numbered_keys}
use Rattle.app_show.specs.Asking.{Asking, AsksAccesses, AsksAll, AsksEach, AsksHandles, AsksIpmb, AsksOne, AsksPeople, AsksSmbus, AsksSomeAccesses, AsksSomeUsers, AsksThen, AsksUsers, Begins, Told, handle_count, most_absent, users_in, with_next}

-- ---- parts

-- all of it is a beginning
pub begun : (asking : Asking) (told : List Told) → asking told → Begins asking told
begun asking told asks = ([], subst asking (sym (append-nil told)) asks)

-- what it begins goes on
begins_more : (asking : Asking) (first rest : List Told) → Begins asking (first ++ rest) → Begins asking first
begins_more asking first rest (more, asks) = (rest ++ more, subst asking (append_assoc first rest more) asks)

pub begins_wider : (some all : Asking) → ((told : List Told) → some told → Begins all told) → (told : List Told) → Begins some told → Begins all told
begins_wider some all wider told (rest, asks) = begins_more all told rest (wider (told ++ rest) asks)

-- a part behind another, which may be the last
pub begins_join : (first second all : Asking) → ((before behind : List Told) → first before → second behind → Begins all (before ++ behind))
    → (before behind : List Told) → first before → Begins second behind → Begins all (before ++ behind)
begins_join first second all joins before behind one (rest, other) =
    begins_more all (before ++ behind) rest (subst (Begins all) (sym (append_assoc before behind rest)) (joins before (behind ++ rest) one other))

pub then_joins : (first second : Asking) (before behind : List Told) → first before → second behind → AsksThen first second (before ++ behind)
then_joins first second before behind one other = (before, behind, refl, one, other)

pub then_begins : (first second : Asking) (rest : List Told) → second rest → (told : List Told) → first told → Begins (AsksThen first second) told
then_begins first second rest other told one = (rest, (told, rest, refl, one, other))

-- ---- records that are named

-- one that isn't there
abbrev absent : Key → Told
absent key = record { key = key; first = None }

pub all_absent : (keys : List Key) → AsksEach keys (map absent keys)
all_absent [] = refl
all_absent (key ∷ keys) = ap (λ (later : List Key). key ∷ later) (all_absent keys)

pub each_then : (first second : List Key) (before behind : List Told) → AsksEach first before → AsksEach second behind → AsksEach (first ++ second) (before ++ behind)
each_then first second before behind one other = map-append (λ (it : Told). it.key) before behind ∙ (λ i. one i ++ other i)

-- the first of them
pub each_begins : (keys : List Key) (count : ℕ) (told : List Told) → AsksEach (take count keys) told → Begins (AsksEach keys) told
each_begins keys count told asks =
    (map absent (drop count keys), each_then (take count keys) (drop count keys) told (map absent (drop count keys)) asks (all_absent (drop count keys)) ∙ take-append-drop count keys)

pub one_of : (key : Key) (first : Option ℕ) (told : List Told) → AsksOne key first told → AsksEach (key ∷ []) told
one_of key first told is = ap (λ (l : List Told). map (λ (it : Told). it.key) l) is

-- one more
pub each_more : (keys : List Key) (place : ℕ) (key : Key) → place < length keys → key ≡ get_or keys place key → (before behind : List Told) → AsksEach (take place keys) before
    → AsksEach (key ∷ []) behind → AsksEach (take (place + 1) keys) (before ++ behind)
each_more keys place key less at before behind one other =
    let more : take (place + 1) keys ≡ take place keys ++ key ∷ [] = take_more keys place key less ∙ ap (λ (k : Key). take place keys ++ k ∷ []) (sym at) in
    each_then (take place keys) (key ∷ []) before behind one other ∙ sym more

-- one that was asked for alone
abbrev IsNone : List Key → Type 0
IsNone [] = Unit {0}
IsNone (key ∷ later) = ⊥

abbrev IsAlone : List Key → Type 0
IsAlone [] = ⊥
IsAlone (key ∷ later) = IsNone later

abbrev first_or : Key → List Key → Key
first_or key [] = key
first_or key (first ∷ later) = first

-- none was asked for yet
pub each_none : (keys : List Key) → Begins (AsksEach keys) []
each_none keys = (map absent keys, all_absent keys)

-- ---- on IPMB

-- the first user's access isn't there
pub accesses_none : (channel : ℕ) (key : Key) (first : Option ℕ) → key ≡ access_key channel 1 → first ≡ None → (told : List Told) → AsksOne key first told → AsksAccesses channel 0 told
accesses_none channel key first same none told is = subst (AsksAccesses channel 0) (sym is) (same, ap users_in (sym none), refl)

-- it is, and the others are asked for
pub accesses_then : (channel users : ℕ) (key : Key) (first : Option ℕ) → key ≡ access_key channel 1 → users ≡ users_in first → (before behind : List Told) → AsksOne key first before
    → AsksEach (later_access_keys channel users) behind → AsksAccesses channel users (before ++ behind)
accesses_then channel users key first same many before behind is asks = subst (λ (l : List Told). AsksAccesses channel users (l ++ behind)) (sym is) (same, many, asks)

pub accesses_begin : (channel : ℕ) (key : Key) → key ≡ access_key channel 1 → (told : List Told) → AsksEach (key ∷ []) told → Begins (AsksSomeAccesses channel) told
accesses_begin channel key same [] is = absurd (subst IsNone is tt)
accesses_begin channel key same (one ∷ []) is =
    let users = users_in one.first in
    (map absent (later_access_keys channel users), (users, (ap (first_or one.key) is ∙ same, refl, all_absent (later_access_keys channel users))))
accesses_begin channel key same (one ∷ other ∷ told) is = absurd (subst IsAlone (sym is) tt)

-- as far as the others came
pub accesses_stop : (channel users : ℕ) (key : Key) (first : Option ℕ) → key ≡ access_key channel 1 → users ≡ users_in first → (before behind : List Told) → AsksOne key first before
    → AsksEach (later_access_keys channel users) behind → Begins (AsksSomeAccesses channel) (before ++ behind)
accesses_stop channel users key first same many before behind is asks =
    begun (AsksSomeAccesses channel) (before ++ behind) (users, accesses_then channel users key first same many before behind is asks)

pub users_then : (some others : List ℕ) (known mid most : ℕ) (before behind : List Told) → AsksUsers some known mid before → AsksUsers others mid most behind
    → AsksUsers (some ++ others) known most (before ++ behind)
users_then [] others known mid most before behind (same, none) then =
    subst (λ (k : ℕ). AsksUsers others k most (before ++ behind)) same (subst (λ (l : List Told). AsksUsers others mid most (l ++ behind)) (sym none) then)
users_then (channel ∷ some) others known mid most before behind (users, (here, there, is, asks, rest)) then = (
  users,
  (
    here,
    there ++ behind,
    ap (λ (l : List Told). l ++ behind) is ∙ append_assoc here there behind,
    asks,
    users_then some others (max known users) mid most there behind rest then,
  ),
)

-- on one channel more
pub users_more : (numbers : List ℕ) (place other most users next : ℕ) → place < length numbers → next ≡ max most users → (before behind : List Told)
    → AsksUsers (take place numbers) 0 most before → AsksAccesses (get_or numbers place other) users behind → AsksUsers (take (place + 1) numbers) 0 next (before ++ behind)
users_more numbers place other most users next less is before behind one asks =
    subst (λ (l : List ℕ). AsksUsers l 0 next (before ++ behind)) (sym (take_more numbers place other less))
    (users_then (take place numbers) (get_or numbers place other ∷ []) 0 most next before behind one (users, (behind, [], sym (append-nil behind), asks, (is, refl))))

some_users : (numbers : List ℕ) (known : ℕ) → (most : ℕ) × (told : List Told) × AsksUsers numbers known most told
some_users [] known = (known, [], (refl, refl))
some_users (channel ∷ later) known =
    let rest = some_users later (max known 0) in
    (rest.0, absent (access_key channel 1) ∷ rest.1, (0, (absent (access_key channel 1) ∷ [], rest.1, refl, (refl, refl, refl), rest.2)))

-- on the first of them
pub users_begin : (numbers : List ℕ) (count most : ℕ) (told : List Told) → AsksUsers (take count numbers) 0 most told → Begins (AsksSomeUsers numbers) told
users_begin numbers count most told asks =
    let rest = some_users (drop count numbers) most in (
      rest.1,
      (
        rest.0,
        subst (λ (l : List ℕ). AsksUsers l 0 rest.0 (told ++ rest.1)) (take-append-drop count numbers)
            (users_then (take count numbers) (drop count numbers) 0 most rest.0 told rest.1 asks rest.2),
      ),
    )

-- on one more, as far as it came
pub users_stop : (numbers : List ℕ) (place other most : ℕ) → place < length numbers → (before behind : List Told) → AsksUsers (take place numbers) 0 most before
    → AsksSomeAccesses (get_or numbers place other) behind → Begins (AsksSomeUsers numbers) (before ++ behind)
users_stop numbers place other most less before behind one (users, asks) =
    users_begin numbers (place + 1) (max most users) (before ++ behind) (users_more numbers place other most users (max most users) less refl before behind one asks)

pub people_then : (most : ℕ) (before behind : List Told) → AsksUsers channels 0 most before → AsksEach (name_keys most) behind → AsksPeople (before ++ behind)
people_then most before behind one other = (most, (before, behind, refl, one, other))

pub people_begin : (told : List Told) → AsksSomeUsers channels told → Begins AsksPeople told
people_begin told (most, asks) = (map absent (name_keys most), (most, (told, map absent (name_keys most), refl, asks, all_absent (name_keys most))))

some_people : (told : List Told) × AsksPeople told
some_people =
    let users = some_users channels 0 in
    (users.1 ++ map absent (name_keys users.0), (users.0, (users.1, map absent (name_keys users.0), refl, users.2, all_absent (name_keys users.0))))

pub ipmb_begins : (told : List Told) → AsksEach numbered_keys told → Begins AsksIpmb told
ipmb_begins told asks = (some_people.0, (told, some_people.0, refl, asks, some_people.1))

-- ---- on SMBus

handles_step : (handle missing : ℕ) → missing < most_absent → handle ≤ handle_count → ((handle < handle_count) → (told : List Told) × AsksHandles (suc handle) (suc missing) told)
    → (told : List Told) × AsksHandles handle missing told
handles_step handle missing few fits rest = by (cases_lt handle handle_count) where
  by : (handle < handle_count) ⊎ (handle_count ≤ handle) → (told : List Told) × AsksHandles handle missing told
  by (inl less) = let later = rest less in (absent (BiosAttribute handle) ∷ later.0, (few, less, refl, later.1))
  by (inr all) = ([], inr (omega (arith, fits, all)))

handles_from : (left handle missing : ℕ) → missing + left ≡ most_absent → handle ≤ handle_count → (told : List Told) × AsksHandles handle missing told
handles_from zero handle missing full fits = ([], inl (omega (arith, full)))
handles_from (suc left) handle missing full fits =
    handles_step handle missing (omega (arith, full)) fits (λ less. handles_from left (suc handle) (suc missing) (omega (arith, full)) (omega (arith, less)))

some_handles : (handle missing : ℕ) → missing ≤ most_absent → handle ≤ handle_count → (told : List Told) × AsksHandles handle missing told
some_handles handle missing few fits = handles_from (most_absent - missing) handle missing (omega (arith, few)) fits

-- with those before, handles from 0 on are asked for, where those from this one on are
abbrev pub HandlesBefore : (handle missing : ℕ) → Asking
HandlesBefore handle missing told = (later : List Told) → AsksHandles handle missing later → AsksHandles 0 0 (told ++ later)

pub handles_none : HandlesBefore 0 0 []
handles_none = λ later asks. asks

pub handles_more : (handle missing next then : ℕ) (first : Option ℕ) → missing < most_absent → handle < handle_count → next ≡ suc handle → then ≡ with_next (is_none first) missing
    → (before behind : List Told) → HandlesBefore handle missing before → AsksOne (BiosAttribute handle) first behind → HandlesBefore next then (before ++ behind)
handles_more handle missing next then first few fits same counts before behind asks is =
    λ later rest.
    let from : AsksHandles (suc handle) (with_next (is_none first) missing) later =
    subst (λ (h : ℕ). AsksHandles h (with_next (is_none first) missing) later) same (subst (λ (m : ℕ). AsksHandles next m later) counts rest) in
    subst (AsksHandles 0 0) (sym (append_assoc before behind later))
    (asks (behind ++ later) (subst (λ (l : List Told). AsksHandles handle missing (l ++ later)) (sym is) (few, fits, refl, from)))

-- as many in a row as end the search
pub all_missing : (is_so : Bool) (before then : ℕ) → before < most_absent → then ≡ with_next is_so before → most_absent ≤ then → then ≡ most_absent
all_missing true before then few is many = omega (arith, few, is, many)
all_missing false before then few is many = absurd (omega (arith, is, many))

still_few : (is_so : Bool) (before : ℕ) → before < most_absent → with_next is_so before ≤ most_absent
still_few true before few = omega (arith, few)
still_few false before few = omega arith

pub handles_stop : (handle missing : ℕ) → missing < most_absent → handle < handle_count → (before behind : List Told) → HandlesBefore handle missing before
    → AsksEach (BiosAttribute handle ∷ []) behind → Begins (AsksHandles 0 0) (before ++ behind)
handles_stop handle missing few fits before [] asks is = absurd (subst IsNone is tt)
handles_stop handle missing few fits before (one ∷ []) asks is =
    let rest = some_handles (suc handle) (with_next (is_none one.first) missing) (still_few (is_none one.first) missing few) (omega (arith, fits)) in
    (rest.0, subst (AsksHandles 0 0) (sym (append_assoc before (one ∷ []) rest.0)) (asks (one ∷ rest.0) (few, fits, ap (first_or one.key) is, rest.1)))
handles_stop handle missing few fits before (one ∷ other ∷ behind) asks is = absurd (subst IsAlone (sym is) tt)

pub handles_end : (handle missing : ℕ) (told : List Told) → (missing ≡ most_absent) ⊎ (handle ≡ handle_count) → HandlesBefore handle missing told → AsksHandles 0 0 told
handles_end handle missing told ends asks = subst (AsksHandles 0 0) (append-nil told) (asks [] ends)

some_smbus : (effecters : List IdRange) → (told : List Told) × AsksSmbus effecters told
some_smbus effecters =
    let handles = some_handles 0 0 (omega arith) (omega arith) in
    let names = map absent (effecter_keys effecters) in
    (handles.0 ++ names, (handles.0, names, refl, handles.1, all_absent (effecter_keys effecters)))

pub smbus_begins : (effecters : List IdRange) (told : List Told) → AsksHandles 0 0 told → Begins (AsksSmbus effecters) told
smbus_begins effecters =
    then_begins (AsksHandles 0 0) (AsksEach (effecter_keys effecters)) (map absent (effecter_keys effecters)) (all_absent (effecter_keys effecters))

-- ---- on both, or on IPMB alone

pub all_begins : (smbus : Bool) (effecters : List IdRange) (told : List Told) → AsksIpmb told → Begins (AsksAll smbus effecters) told
all_begins false effecters told asks = begun AsksIpmb told asks
all_begins true effecters told asks = let rest = some_smbus effecters in then_begins AsksIpmb (AsksSmbus effecters) rest.0 rest.1 told asks

pub all_alone : (smbus : Bool) (effecters : List IdRange) → smbus ≡ false → (told : List Told) → AsksIpmb told → AsksAll smbus effecters told
all_alone smbus effecters is told asks = subst (λ (s : Bool). AsksAll s effecters told) (sym is) asks

pub all_then : (smbus : Bool) (effecters : List IdRange) → smbus ≡ true → (before behind : List Told) → AsksIpmb before → AsksSmbus effecters behind
    → AsksAll smbus effecters (before ++ behind)
all_then smbus effecters is before behind one other =
    subst (λ (s : Bool). AsksAll s effecters (before ++ behind)) (sym is) (before, behind, refl, one, other)

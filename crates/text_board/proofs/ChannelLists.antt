-- The channels of a file that have sessions, those that have none, and what users may do on them: each has a number of its own.
use Rattle.std.proofs.Common.{◌≡◌, ◌≢◌, ℕ, zero, suc, ◌+◌, ◌*◌, ◌<◌, ◌≤◌, length, get_or, map, filter, List, [], ◌∷◌, ◌++◌, Bool, true, false, cond, subst, refl, sym, ap, ◌∙◌, arith}
use Rattle.std.proofs.lemmas.List.{length-map, length-append, append-nil, append_assoc}
use Rattle.std.proofs.lemmas.List.Kept.{AllPairs-cons}
use Rattle.std.proofs.lemmas.Slice.Zip.{AllZip-long}
use Rattle.std.specs.List.{AllZip, AllByRecursion}
use Rattle.record_base.specs.BoardSizes.{most_users, most_channels, most_accesses}
use Rattle.toml.specs.Data.{Data}
use Rattle.record_base.specs.declared.user.UserAccess.{UserAccess}
use Rattle.record_base.specs.Distinct.{NamesDiffer}
use Rattle.record_base.specs.Numbers.{number_on}
use Rattle.text_fields.specs.declared.field.Field.TheVariants as field
use Rattle.text_fields.specs.Trees.{natural, table_of, members_in}
use Rattle.text_fields.specs.Ranges.{or_zero}
use Rattle.text_board.specs.Holds.{parts_of, on_channel, channel_of, accesses_in}

-- ---- lists side by side

module _ {A B : Type 0} (Holds : A → B → Type 0) (f : A → ℕ) (g : B → ℕ) (same : (a : A) (b : B) → Holds a b → f a ≡ g b) where
  zip_at : (xs : List A) (ys : List B) → AllZip Holds xs ys → (k : ℕ) (a : A) (b : B) → k < length ys → f (get_or xs k a) ≡ g (get_or ys k b)
  zip_at [] [] zip k a b within = absurd (omega arith)
  zip_at [] (y ∷ ys) zip k a b within = absurd zip
  zip_at (x ∷ xs) [] zip k a b within = absurd zip
  zip_at (x ∷ xs) (y ∷ ys) zip zero a b within = same x y zip.0
  zip_at (x ∷ xs) (y ∷ ys) zip (suc k) a b within = zip_at xs ys zip.1 k a b (omega arith)

  -- where the numbers of the ones differ, so do those of the others
  pub differ_zip : (xs : List A) (ys : List B) → AllZip Holds xs ys → NamesDiffer f xs → NamesDiffer g ys
  differ_zip [] [] zip differ i j d below within also = absurd (omega arith)
  differ_zip [] (y ∷ ys) zip differ i j d below within also = absurd zip
  differ_zip (x ∷ xs) [] zip differ i j d below within also = absurd zip
  differ_zip (x ∷ xs) (y ∷ ys) zip differ i j d below within also =
      let long : length (y ∷ ys) ≡ length (x ∷ xs) = AllZip-long Holds (x ∷ xs) (y ∷ ys) zip in
      differ i j x below (omega (arith, within, long))
      (zip_at (x ∷ xs) (y ∷ ys) zip i x d (omega arith) ∙ also ∙ sym (zip_at (x ∷ xs) (y ∷ ys) zip j x d within))

  pub differ_back : (xs : List A) (ys : List B) → AllZip Holds xs ys → NamesDiffer g ys → NamesDiffer f xs
  differ_back [] [] zip differ i j d below within also = absurd (omega arith)
  differ_back [] (y ∷ ys) zip differ i j d below within also = absurd zip
  differ_back (x ∷ xs) [] zip differ i j d below within also = absurd zip
  differ_back (x ∷ xs) (y ∷ ys) zip differ i j d below within also =
      let long : length (y ∷ ys) ≡ length (x ∷ xs) = AllZip-long Holds (x ∷ xs) (y ∷ ys) zip in
      differ i j y below (omega (arith, within, long))
      (sym (zip_at (x ∷ xs) (y ∷ ys) zip i d y (omega (arith, within, long, below))) ∙ also ∙ zip_at (x ∷ xs) (y ∷ ys) zip j d y (omega (arith, within, long)))

-- ---- each of a list

all_append : {A : Type 0} (P : A → Type 0) (xs ys : List A) → AllByRecursion P xs → AllByRecursion P ys → AllByRecursion P (xs ++ ys)
all_append P [] ys a b = b
all_append P (x ∷ xs) ys a b = (a.0, all_append P xs ys a.1 b)

pub weaken : {A : Type 0} (P Q : A → Type 0) → ((x : A) → P x → Q x) → (xs : List A) → AllByRecursion P xs → AllByRecursion Q xs
weaken P Q f [] a = tt
weaken P Q f (x ∷ xs) a = (f x a.0, weaken P Q f xs a.1)

each_of : {A : Type 0} (P : A → Type 0) (xs : List A) → ((k : ℕ) (d : A) → k < length xs → P (get_or xs k d)) → AllByRecursion P xs
each_of P [] at = tt
each_of P (x ∷ xs) at = (at 0 x (omega arith), each_of P xs (λ k d within. at (suc k) d (omega arith)))

of_map : {A B : Type 0} (P : B → Type 0) (f : A → B) (xs : List A) → AllByRecursion P (map f xs) → (k : ℕ) (d : A) → k < length xs → P (f (get_or xs k d))
of_map P f [] all k d within = absurd (omega arith)
of_map P f (x ∷ xs) all zero d within = all.0
of_map P f (x ∷ xs) all (suc k) d within = of_map P f xs all.1 k d (omega arith)

few_here : {A : Type 0} (b : Bool) (x : A) (xs : List A) (n : ℕ) → length xs ≤ n → length (cond b (x ∷ xs) xs) ≤ n + 1
few_here true x xs n few = omega (arith, few)
few_here false x xs n few = omega (arith, few)

-- a list keeps no more than it has
pub filter_few : {A : Type 0} (p : A → Bool) (xs : List A) → length (filter p xs) ≤ length xs
filter_few p [] = omega arith
filter_few p (x ∷ xs) = let few = few_here (p x) x (filter p xs) (length xs) (filter_few p xs) in omega (arith, few)

-- ---- what users may do

-- a file has at most so many users
abbrev pub FewUsers : Data → Type 0
FewUsers d = length (members_in field.Users (table_of d)) ≤ most_users

abbrev num : ℕ × (ℕ × ℕ) → ℕ
num p = p.0 * 64 + p.1.0

abbrev Apart : List (ℕ × (ℕ × ℕ)) → Type 0
Apart [] = Unit {0}
Apart (p ∷ ps) = AllByRecursion (λ q. num p ≢ num q) ps × Apart ps

apart_append : (xs ys : List (ℕ × (ℕ × ℕ))) → Apart xs → Apart ys → AllByRecursion (λ x. AllByRecursion (λ y. num x ≢ num y) ys) xs → Apart (xs ++ ys)
apart_append [] ys a b cross = b
apart_append (x ∷ xs) ys a b cross = (all_append (λ q. num x ≢ num q) xs ys a.0 cross.0, apart_append xs ys a.1 b cross.1)

abbrev On : ℕ → ℕ → ℕ × (ℕ × ℕ) → Type 0
On c n q = (q.0 ≡ c) × ((n ≤ q.1.0) × (q.1.0 < 64))

later : (c n : ℕ) (q : ℕ × (ℕ × ℕ)) → On c (n + 1) q → On c n q
later c n q on = (on.0, (omega (arith, on.1.0), on.1.1))

on_all : (c n : ℕ) (ds : List Data) → n + length ds ≤ 64 → AllByRecursion (On c n) (on_channel c n ds)
on_all c n [] few = tt
on_all c n (d ∷ ds) few = ((refl, (omega arith, omega (arith, few))), weaken (On c (n + 1)) (On c n) (later c n) (on_channel c (n + 1) ds) (on_all c (n + 1) ds (omega (arith, few))))

behind : (c n byte : ℕ) (q : ℕ × (ℕ × ℕ)) → On c (n + 1) q → num (c, (n, byte)) ≢ num q
behind c n byte q on same = let is = on.0 in let above = on.1.0 in absurd (omega (arith, is, above, same))

on_apart : (c n : ℕ) (ds : List Data) → n + length ds ≤ 64 → Apart (on_channel c n ds)
on_apart c n [] few = tt
on_apart c n (d ∷ ds) few = (
  weaken (On c (n + 1)) (λ q. num (c, (n, or_zero (natural d))) ≢ num q) (behind c n (or_zero (natural d))) (on_channel c (n + 1) ds) (on_all c (n + 1) ds (omega (arith, few))),
  on_apart c (n + 1) ds (omega (arith, few)),
)

abbrev Elsewhere : ℕ → ℕ × (ℕ × ℕ) → Type 0
Elsewhere c q = (c ≢ q.0) × (q.1.0 < 64)

moved : (c e : ℕ) → c ≢ e → (q : ℕ × (ℕ × ℕ)) → On e 1 q → Elsewhere c q
moved c e other q on = (λ same. other (same ∙ on.0), on.1.1)

elsewhere : (c : ℕ) (ds : List Data) → AllByRecursion FewUsers ds → AllByRecursion (λ d. c ≢ channel_of d) ds → AllByRecursion (Elsewhere c) (accesses_in ds)
elsewhere c [] few others = tt
elsewhere c (d ∷ ds) few others =
    let users = members_in field.Users (table_of d) in
    all_append (Elsewhere c) (on_channel (channel_of d) 1 users) (accesses_in ds)
    (weaken (On (channel_of d) 1) (Elsewhere c) (moved c (channel_of d) others.0) (on_channel (channel_of d) 1 users) (on_all (channel_of d) 1 users (omega (arith, few.0))))
    (elsewhere c ds few.1 others.1)

crossing : (c : ℕ) (p q : ℕ × (ℕ × ℕ)) → On c 1 p → Elsewhere c q → num p ≢ num q
crossing c p q on away same =
    let is = on.0 in let low = on.1.1 in let also = away.1 in
    let met : c ≡ q.0 = omega (arith, is, low, also, same) in
    away.0 met

cross : (c : ℕ) (ps qs : List (ℕ × (ℕ × ℕ))) → AllByRecursion (On c 1) ps → AllByRecursion (Elsewhere c) qs → AllByRecursion (λ p. AllByRecursion (λ q. num p ≢ num q) qs) ps
cross c ps qs on away = weaken (On c 1) (λ p. AllByRecursion (λ q. num p ≢ num q) qs) (λ p here. weaken (Elsewhere c) (λ q. num p ≢ num q) (λ q there. crossing c p q here there) qs away) ps on

abbrev ChannelsApart : List Data → Type 0
ChannelsApart [] = Unit {0}
ChannelsApart (d ∷ ds) = AllByRecursion (λ e. channel_of d ≢ channel_of e) ds × ChannelsApart ds

channels_apart : (ds : List Data) → NamesDiffer channel_of ds → ChannelsApart ds
channels_apart [] differ = tt
channels_apart (d ∷ ds) differ = (
  each_of (λ e. channel_of d ≢ channel_of e) ds (λ k e within. differ 0 (suc k) e (omega arith) (omega arith)),
  channels_apart ds (λ i j e below within. differ (suc i) (suc j) e (omega arith) (omega arith)),
)

accesses_apart : (ds : List Data) → AllByRecursion FewUsers ds → ChannelsApart ds → Apart (accesses_in ds)
accesses_apart [] few apart = tt
accesses_apart (d ∷ ds) few apart =
    let users = members_in field.Users (table_of d) in
    let c = channel_of d in
    apart_append (on_channel c 1 users) (accesses_in ds) (on_apart c 1 users (omega (arith, few.0))) (accesses_apart ds few.1 apart.1)
    (cross c (on_channel c 1 users) (accesses_in ds) (on_all c 1 users (omega (arith, few.0))) (elsewhere c ds few.1 apart.0))

told_apart : (accesses : List UserAccess) → Apart (map parts_of accesses) → NamesDiffer (λ (access : UserAccess). number_on access.on) accesses
told_apart [] apart i j d below within = absurd (omega arith)
told_apart (a ∷ accesses) apart i j d below within =
    AllPairs-cons (λ (x y : UserAccess). number_on x.on ≢ number_on y.on) a accesses
    (λ k e inside. of_map (λ q. num (parts_of a) ≢ num q) parts_of accesses apart.0 k e inside)
    (told_apart accesses apart.1) i j d below within

-- no two are of one user on one channel
pub accesses_differ : (ds : List Data) (accesses : List UserAccess) → AllByRecursion FewUsers ds → NamesDiffer channel_of ds → map parts_of accesses ≡ accesses_in ds
    → NamesDiffer (λ (access : UserAccess). number_on access.on) accesses
accesses_differ ds accesses few differ told = told_apart accesses (subst Apart (sym told) (accesses_apart ds few (channels_apart ds differ)))

on_long : (c n : ℕ) (ds : List Data) → length (on_channel c n ds) ≡ length ds
on_long c n [] = refl
on_long c n (d ∷ ds) = ap suc (on_long c (n + 1) ds)

long_in : (ds : List Data) → AllByRecursion FewUsers ds → length (accesses_in ds) ≤ most_users * length ds
long_in [] few = omega arith
long_in (d ∷ ds) few =
    let users = members_in field.Users (table_of d) in
    let whole = length-append (on_channel (channel_of d) 1 users) (accesses_in ds) in
    let here = on_long (channel_of d) 1 users in
    let more = long_in ds few.1 in
    omega (arith, whole, here, more, few.0)

-- there are at most `most_users` a channel
pub accesses_few : (ds : List Data) (accesses : List UserAccess) → AllByRecursion FewUsers ds → length ds ≤ most_channels → map parts_of accesses ≡ accesses_in ds → length accesses ≤ most_accesses
accesses_few ds accesses few channels told =
    let long = sym (length-map accesses parts_of) ∙ ap length told in
    let most = long_in ds few in
    omega (arith, long, most, channels)

-- one more byte on a channel
pub on_more : (c n : ℕ) (ds : List Data) (d : Data) → on_channel c n (ds ++ d ∷ []) ≡ on_channel c n ds ++ (c, (n + length ds, or_zero (natural d))) ∷ []
on_more c n [] d = ap (λ user. (c, (user, or_zero (natural d))) ∷ []) (omega arith)
on_more c n (x ∷ ds) d =
    let place : n + 1 + length ds ≡ n + suc (length ds) = omega arith in
    ap (λ rest. (c, (n, or_zero (natural x))) ∷ rest) (on_more c (n + 1) ds d ∙ ap (λ user. on_channel c (n + 1) ds ++ (c, (user, or_zero (natural d))) ∷ []) place)

-- one more channel
pub accesses_more : (ds : List Data) (d : Data) → accesses_in (ds ++ d ∷ []) ≡ accesses_in ds ++ on_channel (channel_of d) 1 (members_in field.Users (table_of d))
accesses_more [] d = append-nil (on_channel (channel_of d) 1 (members_in field.Users (table_of d)))
accesses_more (x ∷ ds) d =
    ap (λ rest. on_channel (channel_of x) 1 (members_in field.Users (table_of x)) ++ rest) (accesses_more ds d)
    ∙ sym (append_assoc (on_channel (channel_of x) 1 (members_in field.Users (table_of x))) (accesses_in ds) (on_channel (channel_of d) 1 (members_in field.Users (table_of d))))

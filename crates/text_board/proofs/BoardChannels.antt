-- The channels of a file, all together: no two have one number, they are as many as the file has, and each user has an access on each that has
-- sessions.
use Rattle.std.proofs.Common.{◌≡◌, ◌≢◌, ℕ, suc, ◌+◌, length, get_or, map, filter, not, List, [], ◌∷◌, ◌++◌, Bool, true, false, cond, refl, sym, ap, subst, ◌∙◌, arith}
use Rattle.std.proofs.lemmas.List.{length-map, length-append, map-append}
use Rattle.std.proofs.lemmas.List.Elements.{All-cons, All-filter, All-map}
use Rattle.std.proofs.lemmas.List.Filters.{length-filter_both}
use Rattle.std.proofs.lemmas.List.Kept.{AllPairs-filter}
use Rattle.std.specs.List.{All, AllZip, AllByRecursion}
use Rattle.toml.specs.Data.{Data}
use Rattle.record_base.specs.declared.channel.Channel.{Channel}
use Rattle.record_base.specs.Numbers.{ChannelNumber}
use Rattle.record_base.specs.declared.user.User.{User}
use Rattle.record_base.specs.declared.user.UserAccess.{UserAccess}
use Rattle.record_base.specs.Distinct.{NamesDiffer}
use Rattle.record_base.specs.InOrder.{AreNumbered}
use Rattle.record_base.proofs.Names.{NamesDiffer-append, NamesDiffer-map}
use Rattle.cfg_records.specs.BoardChannels.{channel_numbers, on_numbers, each_user_on}
use Rattle.text_fields.specs.declared.field.Field.TheVariants as field
use Rattle.text_fields.specs.Trees.{table_of, members_in}
use Rattle.text_fields.specs.Ranges.{or_zero}
use Rattle.text_board.specs.Faults.{channel_faults}
use Rattle.text_board.specs.Holds.{IsChannelIn, IsNumberIn, serves, with_sessions, without_sessions, parts_of, on_channel, accesses_in, channel_of}
use Rattle.text_board.proofs.ChannelFields.{HasUsers, each_sound, each_told}

-- ---- those that pass a test, and those that don't

module _ {X : Type 0} (name : X → ℕ) (p : X → Bool) where
  abbrev fails : X → Bool
  fails x = not (p x)

  -- each of the ones has another name than each of the others
  abbrev Cross : List X → List X → Type 0
  Cross xs ys = All (λ x. All (λ y. name x ≢ name y) ys) xs

  crossed : (x : X) (xs : List X) (b : Bool) → All (λ y. name x ≢ name y) xs → Cross (filter p xs) (filter fails xs)
      → Cross (cond b (x ∷ filter p xs) (filter p xs)) (cond (not b) (x ∷ filter fails xs) (filter fails xs))
  crossed x xs true apart cross = All-cons (λ a. All (λ y. name a ≢ name y) (filter fails xs)) x (filter p xs) (All-filter fails (λ y. name x ≢ name y) xs apart) cross
  crossed x xs false apart cross =
      λ k d within. All-cons (λ y. name (get_or (filter p xs) k d) ≢ name y) x (filter fails xs)
      (λ same. All-filter p (λ y. name x ≢ name y) xs apart k d within (sym same)) (cross k d within)

  cross : (xs : List X) → NamesDiffer name xs → Cross (filter p xs) (filter fails xs)
  cross [] differ = λ k d within. absurd (omega (arith, within))
  cross (x ∷ xs) differ =
      crossed x xs (p x) (λ k d within. differ 0 (suc k) d (omega arith) (omega arith))
      (cross xs (λ i j d below within. differ (suc i) (suc j) d (omega arith) (omega arith)))

  -- no two of all have one name
  both_differ : (xs : List X) → NamesDiffer name xs → NamesDiffer (λ (n : ℕ). n) (map name (filter p xs) ++ map name (filter fails xs))
  both_differ xs differ =
      let these = filter p xs in
      let those = filter fails xs in
      let kept = AllPairs-filter (λ a b. name a ≢ name b) p xs differ in
      let left = AllPairs-filter (λ a b. name a ≢ name b) fails xs differ in
      let apart : All (λ a. All (λ b. a ≢ b) (map name those)) (map name these) =
      All-map (λ a. All (λ b. a ≢ b) (map name those)) name these (λ k d within. All-map (λ b. name (get_or these k d) ≢ b) name those (cross xs differ k d within)) in
      NamesDiffer-append (λ (n : ℕ). n) (map name these) (map name those) (NamesDiffer-map (λ (n : ℕ). n) name these kept) (NamesDiffer-map (λ (n : ℕ). n) name those left) (λ m n d p q. apart m d p n d q)

  -- together they are all
  both_long : (xs : List X) → length (map name (filter p xs) ++ map name (filter fails xs)) ≡ length xs
  both_long xs =
      let whole = length-append (map name (filter p xs)) (map name (filter fails xs)) in
      let these = length-map (filter p xs) name in
      let those = length-map (filter fails xs) name in
      let both = length-filter_both p fails (λ x. refl) xs in
      omega (arith, whole, these, those, both)

-- ---- numbers

numbers_with : (ds : List Data) (channels : List Channel) → AllZip IsChannelIn ds channels → map channel_of ds ≡ map (λ (c : Channel). c.number.number) channels
numbers_with [] [] zip = refl
numbers_with [] (c ∷ channels) zip = absurd zip
numbers_with (d ∷ ds) [] zip = absurd zip
numbers_with (d ∷ ds) (c ∷ channels) zip = let here = ap or_zero zip.0.numbered in let rest = numbers_with ds channels zip.1 in λ i. here i ∷ rest i

numbers_without : (ds : List Data) (channels : List ChannelNumber) → AllZip IsNumberIn ds channels → map channel_of ds ≡ map (λ (c : ChannelNumber). c.number) channels
numbers_without [] [] zip = refl
numbers_without [] (c ∷ channels) zip = absurd zip
numbers_without (d ∷ ds) [] zip = absurd zip
numbers_without (d ∷ ds) (c ∷ channels) zip = let here = ap or_zero zip.0 in let rest = numbers_without ds channels zip.1 in λ i. here i ∷ rest i

module _ (ds : List Data) (channels : List Channel) (sessionless : List ChannelNumber) (with : AllZip IsChannelIn (with_sessions ds) channels) (without : AllZip IsNumberIn (without_sessions ds) sessionless) where
  pub numbers_in : map channel_of (with_sessions ds) ++ map channel_of (without_sessions ds) ≡ channel_numbers channels sessionless
  numbers_in = let a = numbers_with (with_sessions ds) channels with in let b = numbers_without (without_sessions ds) sessionless without in λ i. a i ++ b i

  -- no two channels have one number
  pub numbers_apart : NamesDiffer channel_of ds → NamesDiffer (λ (n : ℕ). n) (channel_numbers channels sessionless)
  numbers_apart differ = subst (NamesDiffer (λ (n : ℕ). n)) numbers_in (both_differ channel_of serves ds differ)

  -- they are as many as the file has
  pub numbers_long : length (channel_numbers channels sessionless) ≡ length ds
  numbers_long = ap length (sym numbers_in) ∙ both_long channel_of serves ds

-- ---- what users may do

-- whose it is, and where
abbrev on_pair : ℕ × (ℕ × ℕ) → ℕ × ℕ
on_pair p = (p.0, p.1.0)

abbrev AreUsersFrom : ℕ → List User → Type 0
AreUsersFrom n users = AreNumbered (λ (user : User). user.number.number) n users

pairs_on : (c n : ℕ) (ds : List Data) (users : List User) → length ds ≡ length users → AreUsersFrom n users
    → map on_pair (on_channel c n ds) ≡ map (λ (user : User). (c, user.number.number)) users
pairs_on c n [] [] long all = refl
pairs_on c n [] (u ∷ users) long all = absurd (omega (arith, long))
pairs_on c n (d ∷ ds) [] long all = absurd (omega (arith, long))
pairs_on c n (d ∷ ds) (u ∷ users) long all =
    let here = sym all.0 in
    let rest = pairs_on c (n + 1) ds users (omega (arith, long)) all.1 in
    λ i. (c, here i) ∷ rest i

pairs_in : (ds : List Data) (channels : List Channel) (users : List User) → AllZip IsChannelIn ds channels → AllByRecursion (HasUsers (length users)) ds → AreUsersFrom 1 users
    → map on_pair (accesses_in ds) ≡ each_user_on channels users
pairs_in [] [] users zip told all = refl
pairs_in [] (c ∷ channels) users zip told all = absurd zip
pairs_in (d ∷ ds) [] users zip told all = absurd zip
pairs_in (d ∷ ds) (c ∷ channels) users zip told all =
    let number : channel_of d ≡ c.number.number = ap or_zero zip.0.numbered in
    let members = members_in field.Users (table_of d) in
    let here = pairs_on (channel_of d) 1 members users told.0 all ∙ ap (λ n. map (λ (user : User). (n, user.number.number)) users) number in
    let rest = pairs_in ds channels users zip.1 told.1 all in
    map-append on_pair (on_channel (channel_of d) 1 members) (accesses_in ds) ∙ (λ i. here i ++ rest i)

pairs_of : (accesses : List UserAccess) → map on_numbers accesses ≡ map on_pair (map parts_of accesses)
pairs_of [] = refl
pairs_of (a ∷ accesses) = ap (λ rest. on_numbers a ∷ rest) (pairs_of accesses)

-- each user has an access on each channel that has sessions
pub each_held : (ds : List Data) (channels : List Channel) (users : List User) (accesses : List UserAccess) → channel_faults (length users) ds ≡ []
    → AllZip IsChannelIn (with_sessions ds) channels → map parts_of accesses ≡ accesses_in (with_sessions ds) → AreUsersFrom 1 users
    → map on_numbers accesses ≡ each_user_on channels users
each_held ds channels users accesses sound zip held all =
    pairs_of accesses ∙ ap (map on_pair) held ∙ pairs_in (with_sessions ds) channels users zip (each_told (length users) ds (each_sound (length users) ds sound)) all

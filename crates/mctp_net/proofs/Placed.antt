-- What the places keep after a packet.
use Rattle.std.proofs.Common.{◌≡◌, ℕ, suc, ◌+◌, ◌/◌, ◌%◌, ◌<◌, ◌≤◌, ◌==◌, Bool, true, false, not, cond, List, [], ◌∷◌, ◌++◌, length, take, drop, get_or, set, Option, Some, None, is_some, inl, inr, refl, sym, ◌∙◌, ap, subst, arith, length-append}
use Rattle.std.specs.List.{filter, All}
use Rattle.std.specs.Option.{option_map_or}
use Rattle.std.specs.Prelude.{slice_get}
use Rattle.std.proofs.lemmas.Grind.{flat_map-append}
use Rattle.std.proofs.lemmas.List.{append-nil, length-set, get_or-set_same}
use Rattle.std.proofs.lemmas.Option.{slice_get-get_or}
use Rattle.std.proofs.lemmas.List.Elements.{All-tail}
use Rattle.std.proofs.lemmas.List.Filters.{length-filter_both}
use Rattle.std.proofs.lemmas.Bool.Decides.{nat_tests}
use Rattle.mctp_net.specs.declared.packet.Name.{Name}
use Rattle.mctp_net.specs.declared.packet.Packet.{Packet}
use Rattle.mctp_net.specs.declared.place.Place.{Place}
use Rattle.mctp_net.specs.Grammar.{bit}
use Rattle.mctp_net.specs.Cut.{Piece, piece, EachFrom, carried}
use Rattle.mctp_net.specs.Assembly.{Assemblies, nothing, name_of, is_name, is_open, taken_under, joined_to, open_beside, with_under, closed, ended, kept_with}
use Rattle.mctp_net.specs.Places.{free_place, is_at, runs, part, under_in, is_used, open_in, made_in, assemblies_in, IsFilled, AreSoundPlaces, IsPlaceOf, IsRoomFor}
use Rattle.mctp_net.specs.Sound.{IsWaitingAt, FitsAssembly}
use Rattle.mctp_net.proofs.Names.{name-one, name-self, free_at, used_at}
use Rattle.mctp_net.proofs.Causes.{joined-more}
use Rattle.mctp_net.proofs.Runs.{waits, length-runs, runs-waiting, carried-runs, runs-push}
use Rattle.mctp_net.proofs.PlaceLists.{has, IsFor, count-around, part-none, part-all, none-under, replaced, alone-own, alone-none, under-place}

-- the place of a name is used
pub placed-open : (n : Name) (ps : List Place) (i : ℕ) → AreSoundPlaces ps → IsPlaceOf (Some n) ps (Some i) → (bit (is_open (under_in ps n)) ≡ 1) × (1 ≤ open_in ps)
placed-open n ps i sound at =
    let s : Place = get_or ps i free_place in
    let mine : has n s ≡ true = at.1 free_place in
    let used : is_used s ≡ true = ap not (used_at s.name n mine) in
    let some : (0 < length s.bytes) × (length s.bytes % 64 ≡ 0) = sound.filled i free_place at.0 used in
    let long : length (under_in ps n) ≡ length s.bytes / 64 = ap length (under-place n ps i free_place sound at.0 mine) ∙ length-runs s.bytes in
    let opened : is_open (under_in ps n) ≡ true = grind (arith, nat_tests, long, some.0, some.1) in
    let one : bit (is_used s) ≡ 1 = ap bit used in
    (ap bit opened, omega (arith, count-around is_used ps i free_place at.0))

-- nothing waits under a name without a place
pub unplaced : (n : Name) (ps : List Place) → IsPlaceOf (Some n) ps None → under_in ps n ≡ []
unplaced n ps none = none-under ps n (ap length none)

pub unplaced-shut : (n : Name) (ps : List Place) → IsPlaceOf (Some n) ps None → bit (is_open (under_in ps n)) ≡ 0
unplaced-shut n ps none = ap (λ qs. bit (is_open qs)) (unplaced n ps none)

-- how many wait in a place
pub placed-count : (n : Name) (ps : List Place) (i : ℕ) (s : Place) → AreSoundPlaces ps → IsPlaceOf (Some n) ps (Some i) → s ≡ get_or ps i s → length s.bytes / 64 ≡ length (under_in ps n)
placed-count n ps i s sound at is =
    ap (λ (x : Place). length x.bytes / 64) is ∙ sym (length-runs (get_or ps i s).bytes) ∙ sym (ap length (under-place n ps i s sound at.0 (at.1 s)))

-- a place that is freed
freed : (n : Name) (ps : List Place) (i : ℕ) (s t : Place) → AreSoundPlaces ps → IsPlaceOf (Some n) ps (Some i) → t.name ≡ None → length t.bytes ≤ 256
    → (assemblies_in (set ps i t) None ≡ with_under n [] (assemblies_in ps None)) × AreSoundPlaces (set ps i t)
freed n ps i s t sound at free fits =
    let gone : is_at t.name None ≡ true = ap (λ o. is_at o None) free in
    let unused : is_used t ≡ false = ap not gone in
    let filled : IsFilled t = (λ used. absurd (let no : true ≡ false = sym used ∙ unused in cc)) in
    let put : (assemblies_in (set ps i t) None ≡ with_under n (part n t) (assemblies_in ps None)) × AreSoundPlaces (set ps i t) =
    replaced n ps i s t sound at.0 (alone-own n ps i s sound at.0 (at.1 s)) (inl (at.1 s)) (inr gone) filled fits in
    (put.0 ∙ ap (λ qs. with_under n qs (assemblies_in ps None)) (part-none n t (free_at t.name n gone)), put.1)

-- a place that is used for a name
used : (n : Name) (ps : List Place) (i : ℕ) (s t : Place) → AreSoundPlaces ps → i < length ps → length (filter (has n) (take i ps)) + length (filter (has n) (drop (suc i) ps)) ≡ 0
    → IsFor n (get_or ps i s) → t.name ≡ Some n → 0 < length t.bytes → length t.bytes % 64 ≡ 0 → length t.bytes ≤ 256
    → (assemblies_in (set ps i t) None ≡ with_under n (runs t.bytes) (assemblies_in ps None)) × AreSoundPlaces (set ps i t)
used n ps i s t sound low alone for named some whole fits =
    let mine : has n t ≡ true = ap (λ o. is_at o (Some n)) named ∙ name-self n in
    let put : (assemblies_in (set ps i t) None ≡ with_under n (part n t) (assemblies_in ps None)) × AreSoundPlaces (set ps i t) =
    replaced n ps i s t sound low alone for (inl mine) (λ _. (some, whole)) fits in
    (put.0 ∙ ap (λ qs. with_under n qs (assemblies_in ps None)) (part-all n t mine), put.1)

-- the assembly of the packet's name is closed
pub lets-go : (p : Packet) (ps : List Place) (i : ℕ) (s t : Place) → AreSoundPlaces ps → IsPlaceOf (Some (name_of p.envelope)) ps (Some i) → s ≡ get_or ps i s → t ≡ record { name = None; bytes = s.bytes }
    → (assemblies_in (set ps i t) None ≡ closed p (assemblies_in ps None)) × AreSoundPlaces (set ps i t)
lets-go p ps i s t sound at is now =
    freed (name_of p.envelope) ps i s t sound at (ap (λ (x : Place). x.name) now)
    (omega (arith, ap (λ (x : Place). length x.bytes) now, ap (λ (x : Place). length x.bytes) is, sound.fits i s at.0))

-- and where it has no place it's closed already
pub stays-closed : (p : Packet) (ps : List Place) → IsPlaceOf (Some (name_of p.envelope)) ps None → assemblies_in ps None ≡ closed p (assemblies_in ps None)
stays-closed p ps none = λ i. record { under = λ m. by_name m (is_name m n) refl i; open_count = count i; made = [] }
  where
    n : Name
    n = name_of p.envelope

    by_name : (m : Name) (b : Bool) → is_name m n ≡ b → under_in ps m ≡ cond b [] (under_in ps m)
    by_name m true e = ap (under_in ps) (name-one m n e) ∙ unplaced n ps none
    by_name m false e = refl

    count : open_in ps ≡ open_beside n (assemblies_in ps None) + bit (is_open [])
    count = let shut : bit (is_open (under_in ps n)) ≡ 0 = unplaced-shut n ps none in let also : bit (is_open []) ≡ 0 = refl in omega arith

-- a packet that fits and is no end is the piece that waits
piece-is : (p : Packet) (a : Assemblies) → FitsAssembly a p → p.end ≡ false → waits (length (joined_to p a)) p.payload ≡ piece p
piece-is p a fits more = let start = sym fits.started in let end = sym more in let sequence = sym fits.numbered in λ i. record { start = start i; end = end i; sequence = sequence i; payload = p.payload }

-- the runs with what the packet carries are the pieces with the packet
runs-with : (p : Packet) (a : Assemblies) (bytes : List ℕ) → FitsAssembly a p → p.end ≡ false → length bytes % 64 ≡ 0 → runs bytes ≡ joined_to p a → runs (bytes ++ p.payload) ≡ joined_to p a ++ piece p ∷ []
runs-with p a bytes fits more whole is =
    runs-push bytes p.payload whole (fits.full more)
    ∙ ap (λ qs. qs ++ waits (length qs) p.payload ∷ []) is
    ∙ ap (λ q. joined_to p a ++ q ∷ []) (piece-is p a fits more)

-- a start is kept
pub begins : (p : Packet) (ps : List Place) (i : ℕ) (s t : Place) → AreSoundPlaces ps → i < length ps
    → length (filter (has (name_of p.envelope)) (take i ps)) + length (filter (has (name_of p.envelope)) (drop (suc i) ps)) ≡ 0
    → IsFor (name_of p.envelope) (get_or ps i s) → FitsAssembly (assemblies_in ps None) p → p.end ≡ false → p.start ≡ true
    → t ≡ record { name = Some (name_of p.envelope); bytes = p.payload }
    → (assemblies_in (set ps i t) None ≡ kept_with p (assemblies_in ps None)) × AreSoundPlaces (set ps i t)
begins p ps i s t sound low alone for fits more start now =
    let a : Assemblies = assemblies_in ps None in
    let none : joined_to p a ≡ [] = rw start refl in
    let empty : runs [] ≡ joined_to p a = sym none in
    let run : length p.payload ≡ 64 = fits.full more in
    let bytes : t.bytes ≡ p.payload = ap (λ (x : Place). x.bytes) now in
    let long : length t.bytes ≡ 64 = ap length bytes ∙ run in
    let put : (assemblies_in (set ps i t) None ≡ with_under (name_of p.envelope) (runs t.bytes) a) × AreSoundPlaces (set ps i t) =
    used (name_of p.envelope) ps i s t sound low alone for (ap (λ (x : Place). x.name) now) (omega arith) (omega arith) (omega arith) in
    (put.0 ∙ ap (λ qs. with_under (name_of p.envelope) qs a) (ap runs bytes ∙ runs-with p a [] fits more refl empty), put.1)

-- what waits in the place of a packet that isn't a start
module _ (p : Packet) (ps : List Place) (i : ℕ) (s : Place) (sound : AreSoundPlaces ps) (at : IsPlaceOf (Some (name_of p.envelope)) ps (Some i)) (is : s ≡ get_or ps i s) where
  pub place-whole : (0 < length s.bytes) × (length s.bytes % 64 ≡ 0)
  place-whole =
      let mine : has (name_of p.envelope) (get_or ps i s) ≡ true = at.1 s in
      let some : (0 < length (get_or ps i s).bytes) × (length (get_or ps i s).bytes % 64 ≡ 0) = sound.filled i s at.0 (ap not (used_at (get_or ps i s).name (name_of p.envelope) mine)) in
      subst (λ (x : Place). (0 < length x.bytes) × (length x.bytes % 64 ≡ 0)) (sym is) some

  pub place-runs : runs s.bytes ≡ under_in ps (name_of p.envelope)
  place-runs = ap (λ (x : Place). runs x.bytes) is ∙ sym (under-place (name_of p.envelope) ps i s sound at.0 (at.1 s))

  -- there is room for what it carries
  pub place-room : FitsAssembly (assemblies_in ps None) p → p.start ≡ false → length p.payload ≤ 64 → length s.bytes + length p.payload ≤ 256
  place-room fits start most =
      let waiting : length (joined_to p (assemblies_in ps None)) ≡ length s.bytes / 64 = ap length (joined-more p (assemblies_in ps None) start ∙ sym place-runs) ∙ length-runs s.bytes in
      omega (arith, fits.few, place-whole.1)

  -- a packet that is neither start nor end is kept
  pub appends : (t : Place) → FitsAssembly (assemblies_in ps None) p → p.end ≡ false → p.start ≡ false → t ≡ record { name = s.name; bytes = s.bytes ++ p.payload }
      → (assemblies_in (set ps i t) None ≡ kept_with p (assemblies_in ps None)) × AreSoundPlaces (set ps i t)
  appends t fits more start now =
      let a : Assemblies = assemblies_in ps None in
      let n : Name = name_of p.envelope in
      let run : length p.payload ≡ 64 = fits.full more in
      let bytes : t.bytes ≡ s.bytes ++ p.payload = ap (λ (x : Place). x.bytes) now in
      let long : length t.bytes ≡ length s.bytes + length p.payload = ap length bytes ∙ length-append s.bytes p.payload in
      let room : length s.bytes + length p.payload ≤ 256 = place-room fits start (omega arith) in
      let mine : has n t ≡ true = ap (λ o. is_at o (Some n)) (ap (λ (x : Place). x.name) now ∙ ap (λ (x : Place). x.name) is) ∙ at.1 s in
      let put : (assemblies_in (set ps i t) None ≡ with_under n (part n t) a) × AreSoundPlaces (set ps i t) =
      replaced n ps i s t sound at.0 (alone-own n ps i s sound at.0 (at.1 s)) (inl (at.1 s)) (inl mine) (λ _. (omega arith, omega (arith, place-whole.1))) (omega arith) in
      (put.0 ∙ ap (λ qs. with_under n qs a) (part-all n t mine ∙ ap runs bytes ∙ runs-with p a s.bytes fits more place-whole.1 (place-runs ∙ sym (joined-more p a start))), put.1)

  -- an end that isn't a start leaves its message in the place
  pub ends : (t : Place) → FitsAssembly (assemblies_in ps None) p → p.start ≡ false → length p.payload ≤ 64 → t ≡ record { name = None; bytes = s.bytes ++ p.payload }
      → (assemblies_in (set ps i t) (Some i) ≡ ended p (assemblies_in ps None)) × AreSoundPlaces (set ps i t)
  ends t fits start most now =
      let a : Assemblies = assemblies_in ps None in
      let n : Name = name_of p.envelope in
      let bytes : t.bytes ≡ s.bytes ++ p.payload = ap (λ (x : Place). x.bytes) now in
      let long : length t.bytes ≡ length s.bytes + length p.payload = ap length bytes ∙ length-append s.bytes p.payload in
      let room : length s.bytes + length p.payload ≤ 256 = place-room fits start most in
      let put : (assemblies_in (set ps i t) None ≡ with_under n [] a) × AreSoundPlaces (set ps i t) = freed n ps i s t sound at (ap (λ (x : Place). x.name) now) (omega arith) in
      let there : slice_get (set ps i t) i ≡ Some t = slice_get-get_or (set ps i t) i t (omega (arith, at.0, length-set ps i t)) ∙ ap Some (get_or-set_same ps i t t at.0) in
      let front : carried (taken_under p a) ≡ s.bytes = ap carried (sym place-runs) ∙ carried-runs s.bytes place-whole.1 in
      let made : made_in (set ps i t) (Some i) ≡ carried (taken_under p a ++ piece p ∷ []) =
      ap (λ o. option_map_or (λ (x : Place). x.bytes) o []) there ∙ bytes
      ∙ sym (flat_map-append (λ (q : Piece). q.payload) (taken_under p a) (piece p ∷ []) ∙ (λ j. front j ++ append-nil p.payload j)) in
      let shown : carried (taken_under p a ++ piece p ∷ []) ≡ cond p.start [] (carried (taken_under p a ++ piece p ∷ [])) = sym (ap (λ b. cond b [] (carried (taken_under p a ++ piece p ∷ []))) start) in
      ((λ j. record { under = (put.0 j).under; open_count = (put.0 j).open_count; made = (made ∙ shown) j }), put.1)

-- a packet that fits and isn't a start has a place
pub has-place : (p : Packet) (ps : List Place) → FitsAssembly (assemblies_in ps None) p → p.start ≡ false → IsPlaceOf (Some (name_of p.envelope)) ps None → ⊥
has-place p ps fits start none =
    let nothing : length (joined_to p (assemblies_in ps None)) ≡ 0 = ap length (joined-more p (assemblies_in ps None) start ∙ unplaced (name_of p.envelope) ps none) in
    let no : p.start ≡ true = fits.started ∙ ap (λ n. n == 0) nothing in
    let bad : true ≡ false = sym no ∙ start in cc

-- where fewer than eight places are used one is free
pub has-free : (ps : List Place) → AreSoundPlaces ps → open_in ps < 8 → IsPlaceOf None ps None → ⊥
has-free ps sound few none =
    omega (arith, ap length none, sound.eight, length-filter_both (λ (s : Place). is_at s.name None) is_used (λ s. refl) ps)

-- what isn't none is some
pub some-of : (o : Option ℕ) → (o ≡ None → ⊥) → is_some o ≡ true
some-of None some = absurd (some refl)
some-of (Some i) some = refl

-- a place for a start
pub room-alone : (n : Name) (ps : List Place) (i : ℕ) (d : Place) → AreSoundPlaces ps → IsRoomFor n ps i
    → (i < length ps) × (length (filter (has n) (take i ps)) + length (filter (has n) (drop (suc i) ps)) ≡ 0) × IsFor n (get_or ps i d)
room-alone n ps i d sound (inl own) = (own.0, alone-own n ps i d sound own.0 (own.1 d), inl (own.1 d))
room-alone n ps i d sound (inr (none, free)) = (free.0, alone-none n ps i d free.0 none, inr (free.1 d))

-- what waits under a name are the first pieces of a cut
pub placed-waits : (n : Name) (ps : List Place) (place : Option ℕ) → AreSoundPlaces ps → IsPlaceOf (Some n) ps place → EachFrom IsWaitingAt 0 (under_in ps n)
placed-waits n ps None sound at = subst (EachFrom IsWaitingAt 0) (sym (unplaced n ps at)) tt
placed-waits n ps (Some i) sound at = subst (EachFrom IsWaitingAt 0) (sym (under-place n ps i free_place sound at.0 (at.1 free_place))) (runs-waiting (get_or ps i free_place).bytes)

-- no place passes a test that none holds of
none-pass : (f : Place → Bool) (ps : List Place) → All (λ s. f s ≡ false) ps → filter f ps ≡ []
none-pass f [] h = refl
none-pass f (s ∷ ps) h = let first : f s ≡ false = h 0 s (omega arith) in rw first (none-pass f ps (All-tail (λ x. f x ≡ false) s ps h))

-- free places keep nothing
pub all-free : (ps : List Place) → length ps ≡ 8 → All (λ (s : Place). s.name ≡ None) ps → All (λ (s : Place). length s.bytes ≤ 256) ps → AreSoundPlaces ps × (assemblies_in ps None ≡ nothing)
all-free ps eight free fits = (
  record {
    eight = eight;
    filled = λ k d low used. absurd (let unused : is_used (get_or ps k d) ≡ false = ap (λ o. not (is_at o None)) (free k d low) in let bad : true ≡ false = sym used ∙ unused in cc);
    fits = fits;
    apart = λ n. omega (arith, ap length (nobody n));
  },
  λ i. record { under = λ n. none-under ps n (ap length (nobody n)) i; open_count = ap length unused i; made = [] },
)
  where
    nobody : (n : Name) → filter (has n) ps ≡ []
    nobody n = none-pass (has n) ps (λ k d low. ap (λ o. is_at o (Some n)) (free k d low))

    unused : filter is_used ps ≡ []
    unused = none-pass is_used ps (λ k d low. ap (λ o. not (is_at o None)) (free k d low))

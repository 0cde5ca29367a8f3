-- Places of which one is used for a name.
use Rattle.std.proofs.Common.{◌≡◌, ℕ, suc, ◌+◌, ◌/◌, ◌%◌, ◌<◌, ◌≤◌, Bool, true, false, not, cond, List, [], ◌∷◌, ◌++◌, length, take, drop, get_or, set, Some, None, ◌⊎◌, inl, inr, refl, sym, ◌∙◌, ap, subst, arith}
use Rattle.std.specs.List.{filter}
use Rattle.std.proofs.lemmas.Grind.{flat_map-append}
use Rattle.std.proofs.lemmas.List.{append-nil, take-append-drop, set_split, length-set}
use Rattle.std.proofs.lemmas.List.Elements.{All-set}
use Rattle.std.proofs.Math.Seq.{drop-cons}
use Rattle.std.proofs.lemmas.Bool.Decides.{nat_tests}
use Rattle.mctp_net.specs.declared.packet.Name.{Name}
use Rattle.mctp_net.specs.declared.place.Place.{Place}
use Rattle.mctp_net.specs.Grammar.{bit}
use Rattle.mctp_net.specs.Assembly.{is_name, is_open, open_beside, with_under}
use Rattle.mctp_net.specs.Places.{is_at, runs, part, under_in, is_used, open_in, assemblies_in, IsFilled, AreSoundPlaces}
use Rattle.mctp_net.proofs.PacketLaws.{bit-lt}
use Rattle.mctp_net.proofs.Names.{name-one, other-name_at, free_at, used_at}
use Rattle.mctp_net.proofs.Runs.{length-runs}

-- the place has the name
abbrev pub has : Name → Place → Bool
has n s = is_at s.name (Some n)

-- how many of a list pass
pub count-mid : (f : Place → Bool) (front back : List Place) (s : Place) → length (filter f (front ++ s ∷ back)) ≡ length (filter f front) + (bit (f s) + length (filter f back))
count-mid f [] back s = one (f s)
  where
    one : (b : Bool) → length (cond b (s ∷ filter f back) (filter f back)) ≡ 0 + (bit b + length (filter f back))
    one true = omega arith
    one false = omega arith
count-mid f (x ∷ front) back s = one (f x) (count-mid f front back s)
  where
    one : (b : Bool) → length (filter f (front ++ s ∷ back)) ≡ length (filter f front) + (bit (f s) + length (filter f back))
        → length (cond b (x ∷ filter f (front ++ s ∷ back)) (filter f (front ++ s ∷ back))) ≡ length (cond b (x ∷ filter f front) (filter f front)) + (bit (f s) + length (filter f back))
    one true rest = omega arith
    one false rest = rest

-- a place of another name has nothing of the name
pub part-none : (n : Name) (s : Place) → has n s ≡ false → part n s ≡ []
part-none n s e = rw e refl

pub part-all : (n : Name) (s : Place) → has n s ≡ true → part n s ≡ runs s.bytes
part-all n s e = rw e refl

-- nothing is under a name that no place has
pub none-under : (ps : List Place) (n : Name) → length (filter (has n) ps) ≡ 0 → under_in ps n ≡ []
none-under [] n none = refl
none-under (s ∷ ps) n none = by_name (has n s) refl (none-under ps n)
  where
    by_name : (b : Bool) → has n s ≡ b → (length (filter (has n) ps) ≡ 0 → under_in ps n ≡ []) → under_in (s ∷ ps) n ≡ []
    by_name true e below = absurd (let one : length (filter (has n) (s ∷ ps)) ≡ suc (length (filter (has n) ps)) = rw e refl in omega arith)
    by_name false e below =
        let rest : length (filter (has n) ps) ≡ 0 = rw e at none in
        ap (λ qs. qs ++ under_in ps n) (part-none n s e) ∙ below rest

under-mid : (front back : List Place) (s : Place) (n : Name) → under_in (front ++ s ∷ back) n ≡ under_in front n ++ (part n s ++ under_in back n)
under-mid front back s n = flat_map-append (part n) front (s ∷ back)

-- a place that is the name's, or free
abbrev pub IsFor : Name → Place → Type 0
IsFor n s = (has n s ≡ true) ⊎ (is_at s.name None ≡ true)

other-for : (m n : Name) (s : Place) → IsFor m s → is_name n m ≡ false → has n s ≡ false
other-for m n s (inl mine) differ = other-name_at s.name m n mine differ
other-for m n s (inr free) differ = free_at s.name n free

pub used-for : (n : Name) (s : Place) → IsFor n s → IsFilled s → bit (is_used s) ≡ bit (is_open (part n s))
used-for n s (inl mine) filled =
    let used : is_used s ≡ true = ap not (used_at s.name n mine) in
    let some : (0 < length s.bytes) × (length s.bytes % 64 ≡ 0) = filled used in
    let long : length (part n s) ≡ length s.bytes / 64 = ap length (part-all n s mine) ∙ length-runs s.bytes in
    let open_now : is_open (part n s) ≡ true = grind (arith, nat_tests, long, some.0, some.1) in
    rw (used, open_now) refl
used-for n s (inr free) filled =
    let unused : is_used s ≡ false = ap not free in
    let shut : is_open (part n s) ≡ false = ap is_open (part-none n s (free_at s.name n free)) in
    rw (unused, shut) refl

-- one place is put in the stead of another, both the name's or free, where no other place has the name
module _ (n : Name) (front back : List Place) (s t : Place) (alone : length (filter (has n) front) + length (filter (has n) back) ≡ 0) (old : IsFor n s) (new : IsFor n t) (filled : IsFilled s) (fills : IsFilled t) where
  under-own : (x : Place) → under_in (front ++ x ∷ back) n ≡ part n x
  under-own x =
      let before : under_in front n ≡ [] = none-under front n (omega arith) in
      let behind : under_in back n ≡ [] = none-under back n (omega arith) in
      under-mid front back x n ∙ ap (λ ps. ps ++ (part n x ++ under_in back n)) before ∙ ap (λ ps. part n x ++ ps) behind ∙ append-nil (part n x)

  put-under : (m : Name) → under_in (front ++ t ∷ back) m ≡ cond (is_name m n) (part n t) (under_in (front ++ s ∷ back) m)
  put-under m = by_name (is_name m n) refl
    where
      by_name : (b : Bool) → is_name m n ≡ b → under_in (front ++ t ∷ back) m ≡ cond b (part n t) (under_in (front ++ s ∷ back) m)
      by_name true e = ap (under_in (front ++ t ∷ back)) (name-one m n e) ∙ under-own t
      by_name false e =
          under-mid front back t m ∙ ap (λ ps. under_in front m ++ (ps ++ under_in back m)) (part-none m t (other-for n m t new e) ∙ sym (part-none m s (other-for n m s old e)))
          ∙ sym (under-mid front back s m)

  put-count : open_in (front ++ t ∷ back) ≡ open_beside n (assemblies_in (front ++ s ∷ back) None) + bit (is_open (part n t))
  put-count =
      let own : bit (is_open (under_in (front ++ s ∷ back) n)) ≡ bit (is_used s) = ap (λ ps. bit (is_open ps)) (under-own s) ∙ sym (used-for n s old filled) in
      let with_t : open_in (front ++ t ∷ back) ≡ open_in front + (bit (is_used t) + open_in back) = count-mid is_used front back t in
      let with_s : open_in (front ++ s ∷ back) ≡ open_in front + (bit (is_used s) + open_in back) = count-mid is_used front back s in
      let now : bit (is_used t) ≡ bit (is_open (part n t)) = used-for n t new fills in
      omega arith

  put-is : assemblies_in (front ++ t ∷ back) None ≡ with_under n (part n t) (assemblies_in (front ++ s ∷ back) None)
  put-is = λ i. record { under = λ m. put-under m i; open_count = put-count i; made = [] }

  put-apart : ((m : Name) → length (filter (has m) (front ++ s ∷ back)) ≤ 1) → (m : Name) → length (filter (has m) (front ++ t ∷ back)) ≤ 1
  put-apart apart m = by_name (is_name m n) refl
    where
      by_name : (b : Bool) → is_name m n ≡ b → length (filter (has m) (front ++ t ∷ back)) ≤ 1
      by_name true e = subst (λ (x : Name). length (filter (has x) (front ++ t ∷ back)) ≤ 1) (sym (name-one m n e)) (omega (arith, count-mid (has n) front back t, bit-lt (has n t)))
      by_name false e =
          let no : bit (has m t) ≡ 0 = ap bit (other-for n m t new e) in
          omega (arith, apart m, count-mid (has m) front back t, count-mid (has m) front back s)

-- the place at an index, and those around it
pub around : (ps : List Place) (i : ℕ) (d : Place) → i < length ps → ps ≡ take i ps ++ get_or ps i d ∷ drop (suc i) ps
around ps i d low = sym (take-append-drop i ps) ∙ ap (λ qs. take i ps ++ qs) (drop-cons ps i d low)

-- how many places have a name, the one at an index and others
pub count-around : (f : Place → Bool) (ps : List Place) (i : ℕ) (d : Place) → i < length ps
    → length (filter f ps) ≡ length (filter f (take i ps)) + (bit (f (get_or ps i d)) + length (filter f (drop (suc i) ps)))
count-around f ps i d low = ap (λ qs. length (filter f qs)) (around ps i d low) ∙ count-mid f (take i ps) (drop (suc i) ps) (get_or ps i d)

-- a place is used otherwise for a name that no other has
pub replaced : (n : Name) (ps : List Place) (i : ℕ) (d t : Place) → AreSoundPlaces ps → i < length ps
    → length (filter (has n) (take i ps)) + length (filter (has n) (drop (suc i) ps)) ≡ 0
    → IsFor n (get_or ps i d) → IsFor n t → IsFilled t → length t.bytes ≤ 256
    → (assemblies_in (set ps i t) None ≡ with_under n (part n t) (assemblies_in ps None)) × AreSoundPlaces (set ps i t)
replaced n ps i d t sound low alone old new fills fits =
    let s : Place = get_or ps i d in
    let filled : IsFilled s = sound.filled i d low in
    let is : ps ≡ take i ps ++ s ∷ drop (suc i) ps = around ps i d low in
    let now : set ps i t ≡ take i ps ++ t ∷ drop (suc i) ps = set_split ps i t low in
    let apart : (m : Name) → length (filter (has m) (take i ps ++ s ∷ drop (suc i) ps)) ≤ 1 = subst (λ qs. (m : Name) → length (filter (has m) qs) ≤ 1) is sound.apart in (
      ap (λ qs. assemblies_in qs None) now ∙ put-is n (take i ps) (drop (suc i) ps) s t alone old new filled fills ∙ ap (λ qs. with_under n (part n t) (assemblies_in qs None)) (sym is),
      record {
        eight = length-set ps i t ∙ sound.eight;
        filled = All-set IsFilled ps i t fills sound.filled;
        fits = All-set (λ x. length x.bytes ≤ 256) ps i t fits sound.fits;
        apart = subst (λ qs. (m : Name) → length (filter (has m) qs) ≤ 1) (sym now) (put-apart n (take i ps) (drop (suc i) ps) s t alone old new filled fills apart);
      },
    )

-- no other place has the name of a place
pub alone-own : (n : Name) (ps : List Place) (i : ℕ) (d : Place) → AreSoundPlaces ps → i < length ps → has n (get_or ps i d) ≡ true
    → length (filter (has n) (take i ps)) + length (filter (has n) (drop (suc i) ps)) ≡ 0
alone-own n ps i d sound low mine =
    let one : bit (has n (get_or ps i d)) ≡ 1 = ap bit mine in
    omega (arith, sound.apart n, count-around (has n) ps i d low)

-- no other place has a name that none has
pub alone-none : (n : Name) (ps : List Place) (i : ℕ) (d : Place) → i < length ps → filter (has n) ps ≡ []
    → length (filter (has n) (take i ps)) + length (filter (has n) (drop (suc i) ps)) ≡ 0
alone-none n ps i d low none = omega (arith, ap length none, count-around (has n) ps i d low)

-- what is under a name is what its place has
pub under-place : (n : Name) (ps : List Place) (i : ℕ) (d : Place) → AreSoundPlaces ps → i < length ps → has n (get_or ps i d) ≡ true → under_in ps n ≡ runs (get_or ps i d).bytes
under-place n ps i d sound low mine =
    let s : Place = get_or ps i d in
    let filled : IsFilled s = sound.filled i d low in
    ap (λ qs. under_in qs n) (around ps i d low)
    ∙ under-own n (take i ps) (drop (suc i) ps) s s (alone-own n ps i d sound low mine) (inl mine) (inl mine) filled filled s ∙ part-all n s mine

-- Packets are put together here as `mctp_net` does.
use Rattle.std.proofs.Common.{◌≡◌, ℕ, ◌+◌, Bool, true, false, not, ◌&&◌, ◌||◌, cond, List, [], ◌∷◌, ◌++◌, length, map, Option, Some, None, refl, sym, ◌∙◌, ap, subst, arith, length-append, append-nil}
use Rattle.std.specs.Prelude.{nat_lt, nat_le, ◌==◌, filter}
use Rattle.std.specs.List.{flat_map}
use Rattle.std.proofs.Math.Path.{fun_ext}
use Rattle.std.proofs.lemmas.Bool.Decides.{nat_tests}
use Rattle.std.proofs.lemmas.List.{length-map, map-append}
use Rattle.std.proofs.lemmas.List.Elements.{filter-append}
use Rattle.mctp_net.specs.declared.packet.Name.{Name}
use Rattle.mctp_net.specs.declared.packet.Packet.{Packet}
use Rattle.mctp_net.specs.declared.taken.DropCause.{DropCause}
use Rattle.mctp_net.specs.declared.taken.DropCause.TheVariants.{NotOurs, NoStart, TooLong, OutOfSequence, UnitSize, NoSlot}
use Rattle.mctp_net.specs.Grammar.{bit}
use Rattle.mctp_net.specs.Cut.{Piece, piece, carried}
use Rattle.mctp_net.specs.Assembly.{Assemblies, name_of, is_name, is_open, taken_under, joined_to, open_beside, drop_cause, with_under, unmade, closed, ended, kept_with, after_where, after}
use Rattle.mctp_net.proofs.Names.{name-one, name-self}
use Rattle.model_headline.specs.Frames.{joined, others, is_meant, is_taken, waits_after, whole}
use Rattle.model_headline.specs.Seen.{has, under, starts, seen_as}
use Rattle.model_headline.proofs.Holds.{IsOrderly}

-- all have the name
abbrev pub Named : Name → List Packet → Type 0
Named n [] = Unit {0}
Named n (q ∷ qs) = (has n q ≡ true) × Named n qs

-- ---- filters

cond_same : {X : Type 0} (b : Bool) (x : X) → cond b x x ≡ x
cond_same true x = refl
cond_same false x = refl

named_all : (n : Name) (qs : List Packet) → Named n (under n qs)
named_all n [] = tt
named_all n (q ∷ qs) = at (has n q) refl (named_all n qs)
  where
    at : (b : Bool) → has n q ≡ b → Named n (under n qs) → Named n (cond b (q ∷ under n qs) (under n qs))
    at true e rest = (e, rest)
    at false e rest = rest

keeps_named : (n : Name) (qs : List Packet) → Named n qs → under n qs ≡ qs
keeps_named n [] all = refl
keeps_named n (q ∷ qs) all = ap (λ b. cond b (q ∷ under n qs) (under n qs)) all.0 ∙ ap (λ (rest : List Packet). q ∷ rest) (keeps_named n qs all.1)

name_differs : (a m n : Name) → is_name m n ≡ false → is_name a n ≡ true → is_name a m ≡ false
name_differs a m n e is = by_name (is_name a m) refl
  where
    by_name : (b : Bool) → is_name a m ≡ b → is_name a m ≡ false
    by_name true h = absurd (let no : true ≡ false = sym is ∙ ap (λ (x : Name). is_name x n) (name-one a m h) ∙ e in cc)
    by_name false h = h

drops_named : (m n : Name) → is_name m n ≡ false → (qs : List Packet) → Named n qs → under m qs ≡ []
drops_named m n e [] all = refl
drops_named m n e (q ∷ qs) all = ap (λ b. cond b (q ∷ under m qs) (under m qs)) (name_differs (name_of q.envelope) m n e all.0) ∙ drops_named m n e qs all.1

-- what hasn't a name
abbrev beside : Name → List Packet → List Packet
beside n qs = filter (λ q. not (has n q)) qs

beside_own : (n : Name) (qs : List Packet) → under n (beside n qs) ≡ []
beside_own n [] = refl
beside_own n (q ∷ qs) = at (has n q) refl (beside_own n qs)
  where
    at : (b : Bool) → has n q ≡ b → under n (beside n qs) ≡ [] → under n (cond (not b) (q ∷ beside n qs) (beside n qs)) ≡ []
    at true e rest = rest
    at false e rest = ap (λ c. cond c (q ∷ under n (beside n qs)) (under n (beside n qs))) e ∙ rest

beside_other : (m n : Name) → is_name m n ≡ false → (qs : List Packet) → under m (beside n qs) ≡ under m qs
beside_other m n e [] = refl
beside_other m n e (q ∷ qs) = at (has n q) refl (beside_other m n e qs)
  where
    at : (b : Bool) → has n q ≡ b → under m (beside n qs) ≡ under m qs → under m (cond (not b) (q ∷ beside n qs) (beside n qs)) ≡ under m (q ∷ qs)
    at true is same = same ∙ ap (λ c. cond c (q ∷ under m qs) (under m qs)) (sym (name_differs (name_of q.envelope) m n e is))
    at false is same = ap (λ (rest : List Packet). cond (has m q) (q ∷ rest) rest) same

-- starts are those under the name and those beside
more_left : (s : Bool) (q : Packet) (all left right : List Packet) → length all ≡ length left + length right → length (cond s (q ∷ all) all) ≡ length (cond s (q ∷ left) left) + length right
more_left true q all left right h = omega (arith, h)
more_left false q all left right h = h

more_right : (s : Bool) (q : Packet) (all left right : List Packet) → length all ≡ length left + length right → length (cond s (q ∷ all) all) ≡ length left + length (cond s (q ∷ right) right)
more_right true q all left right h = omega (arith, h)
more_right false q all left right h = h

starts_split : (n : Name) (qs : List Packet) → starts qs ≡ starts (under n qs) + starts (beside n qs)
starts_split n [] = refl
starts_split n (q ∷ qs) = at (has n q) (starts_split n qs)
  where
    at : (b : Bool) → starts qs ≡ starts (under n qs) + starts (beside n qs) → starts (q ∷ qs) ≡ starts (cond b (q ∷ under n qs) (under n qs)) + starts (cond (not b) (q ∷ beside n qs) (beside n qs))
    at true h = more_left q.start q (filter (λ (r : Packet). r.start) qs) (filter (λ (r : Packet). r.start) (under n qs)) (filter (λ (r : Packet). r.start) (beside n qs)) h
    at false h = more_right q.start q (filter (λ (r : Packet). r.start) qs) (filter (λ (r : Packet). r.start) (under n qs)) (filter (λ (r : Packet). r.start) (beside n qs)) h

starts_both : (xs ys : List Packet) → starts (xs ++ ys) ≡ starts xs + starts ys
starts_both xs ys = ap length (filter-append (λ (r : Packet). r.start) xs ys) ∙ length-append (filter (λ (r : Packet). r.start) xs) (filter (λ (r : Packet). r.start) ys)

-- ---- other packets under one name

module _ (n : Name) (waits new : List Packet) (all : Named n new) where
  -- what waits under each name then
  under_then : (m : Name) → under m (beside n waits ++ new) ≡ cond (is_name m n) new (under m waits)
  under_then m = by_name (is_name m n) refl
    where
      by_name : (b : Bool) → is_name m n ≡ b → under m (beside n waits ++ new) ≡ cond b new (under m waits)
      by_name true e = let same : m ≡ n = name-one m n e in
          ap (λ (x : Name). under x (beside n waits ++ new)) same ∙ filter-append (has n) (beside n waits) new
          ∙ (λ i. beside_own n waits i ++ keeps_named n new all i)
      by_name false e = filter-append (has m) (beside n waits) new ∙ (λ i. beside_other m n e waits i ++ drops_named m n e new all i) ∙ append-nil (under m waits)

  module _ (orderly : IsOrderly waits) (made : List ℕ) (one : starts new ≡ bit (is_open (map piece new))) where
    pub still_orderly : IsOrderly (beside n waits ++ new)
    still_orderly m = subst (λ (qs : List Packet). starts qs ≡ bit (is_open (map piece qs))) (sym (under_then m)) (at (is_name m n))
      where
        at : (b : Bool) → starts (cond b new (under m waits)) ≡ bit (is_open (map piece (cond b new (under m waits))))
        at true = one
        at false = orderly m

    counts : open_beside n (seen_as waits made) + bit (is_open (map piece new)) ≡ starts (beside n waits ++ new)
    counts = omega (arith, starts_split n waits, orderly n, one, starts_both (beside n waits) new)

    pub put_so : with_under n (map piece new) (seen_as waits made) ≡ seen_as (beside n waits ++ new) []
    put_so = λ i. record { under = names i; open_count = counts i; made = [] }
      where
        pick : (b : Bool) (xs ys : List Packet) → cond b (map piece xs) (map piece ys) ≡ map piece (cond b xs ys)
        pick true xs ys = refl
        pick false xs ys = refl

        names : (with_under n (map piece new) (seen_as waits made)).under ≡ (seen_as (beside n waits ++ new) []).under
        names = fun_ext (λ m. pick (is_name m n) new (under m waits) ∙ ap (map piece) (sym (under_then m)))

-- ---- a packet

-- so is a packet put behind those that it joins
module _ (p : Packet) (waits : List Packet) (made : List ℕ) (orderly : IsOrderly waits) where
  abbrev mine : Name
  mine = name_of p.envelope

  abbrev kept : Assemblies
  kept = seen_as waits made

  joined_seen : joined_to p kept ≡ map piece (joined p waits)
  joined_seen = at p.start
    where
      at : (b : Bool) → cond b [] (map piece (under mine waits)) ≡ map piece (cond b [] (under mine waits))
      at true = refl
      at false = refl

  joined_length : length (joined_to p kept) ≡ length (joined p waits)
  joined_length = ap length joined_seen ∙ length-map (joined p waits) piece

  joined_named : Named mine (joined p waits)
  joined_named = at p.start
    where
      at : (b : Bool) → Named mine (cond b [] (under mine waits))
      at true = tt
      at false = named_all mine waits

  named_push : (qs : List Packet) → Named mine qs → Named mine (qs ++ p ∷ [])
  named_push [] all = (name_self_of, tt)
    where
      name_self_of : has mine p ≡ true
      name_self_of = name-self mine
  named_push (q ∷ qs) all = (all.0, named_push qs all.1)

  open_push : (qs : List Packet) → bit (is_open (map piece (qs ++ p ∷ []))) ≡ 1
  open_push qs = let some : is_open (map piece (qs ++ p ∷ [])) ≡ true = grind (arith, nat_tests, length-map (qs ++ p ∷ []) piece, length-append qs (p ∷ [])) in ap bit some

  -- the tests
  no_start : (not p.start && (length (taken_under p kept) == 0)) ≡ not (p.start || nat_lt 0 (length (joined p waits)))
  no_start = at p.start
    where
      at : (b : Bool) → (not b && (length (taken_under p kept) == 0)) ≡ not (b || nat_lt 0 (length (cond b [] (under mine waits))))
      at true = refl
      at false = grind (arith, nat_tests, length-map (under mine waits) piece)

  too_long : nat_le 4 (length (joined_to p kept)) ≡ not (nat_lt (length (joined p waits)) 4)
  too_long = grind (arith, nat_tests, joined_length)

  out_of_sequence : not (p.sequence == length (joined_to p kept)) ≡ not (p.sequence == length (joined p waits))
  out_of_sequence = ap (λ n. not (p.sequence == n)) joined_length

  slots : open_beside mine kept ≡ starts (others p waits)
  slots = omega (arith, starts_split mine waits, orderly mine)

  no_slot : (p.start && not p.end && nat_le 8 (open_beside mine kept)) ≡ not (not p.start || p.end || nat_lt (starts (others p waits)) 8)
  no_slot = at p.start p.end
    where
      at : (s e : Bool) → (s && not e && nat_le 8 (open_beside mine kept)) ≡ not (not s || e || nat_lt (starts (others p waits)) 8)
      at true true = refl
      at true false = grind (arith, nat_tests, slots)
      at false true = refl
      at false false = refl

  unit : (not p.end && not (length p.payload == 64)) ≡ not (p.end || length p.payload == 64)
  unit = at p.end
    where
      at : (e : Bool) → (not e && not (length p.payload == 64)) ≡ not (e || length p.payload == 64)
      at true = refl
      at false = refl

  -- what is pushed has one start
  one_start : (p.start || nat_lt 0 (length (joined p waits))) ≡ true → starts (joined p waits ++ p ∷ []) ≡ bit (is_open (map piece (joined p waits ++ p ∷ [])))
  one_start some = at p.start refl ∙ sym (open_push (joined p waits))
    where
      count : (s : Bool) → p.start ≡ s → starts (p ∷ []) ≡ cond s 1 0
      count true e = ap (λ b. length (cond b (p ∷ []) [])) e
      count false e = ap (λ b. length (cond b (p ∷ []) [])) e

      at : (s : Bool) → p.start ≡ s → starts (joined p waits ++ p ∷ []) ≡ 1
      at true e =
          let none : joined p waits ≡ [] = ap (λ b. cond b [] (under mine waits)) e in
          ap (λ (qs : List Packet). starts (qs ++ p ∷ [])) none ∙ count true e
      at false e =
          let there : joined p waits ≡ under mine waits = ap (λ b. cond b [] (under mine waits)) e in
          let more : nat_lt 0 (length (under mine waits)) ≡ true = subst (λ b. (b || nat_lt 0 (length (cond b [] (under mine waits)))) ≡ true) e some in
          let open_there : is_open (map piece (under mine waits)) ≡ true = grind (arith, nat_tests, length-map (under mine waits) piece) in
          let one : starts (under mine waits) ≡ 1 = orderly mine ∙ ap bit open_there in
          ap (λ (qs : List Packet). starts (qs ++ p ∷ [])) there ∙ omega (arith, starts_both (under mine waits) (p ∷ []), one, count false e)

  shut : closed p kept ≡ seen_as (others p waits ++ []) []
  shut = put_so mine waits [] tt orderly made refl

  pushed : (p.start || nat_lt 0 (length (joined p waits))) ≡ true → kept_with p kept ≡ seen_as (others p waits ++ (joined p waits ++ p ∷ [])) []
  pushed some =
      ap (λ (ps : List Piece). with_under mine ps kept) (ap (λ (ps : List Piece). ps ++ piece p ∷ []) joined_seen ∙ sym (map-append piece (joined p waits) (p ∷ [])))
      ∙ put_so mine waits (joined p waits ++ p ∷ []) (named_push (joined p waits) joined_named) orderly made (one_start some)

  -- where nothing waits under the name, nothing is closed
  left_so : (p.start || nat_lt 0 (length (joined p waits))) ≡ false → unmade kept ≡ closed p kept
  left_so none = λ i. record { under = names i; open_count = count i; made = [] }
    where
      empty : under mine waits ≡ []
      empty = at p.start none
        where
          nothing : (qs : List Packet) → nat_lt 0 (length qs) ≡ false → qs ≡ []
          nothing [] h = refl
          nothing (q ∷ qs) h = absurd (let yes : nat_lt 0 (length (q ∷ qs)) ≡ true = grind (arith, nat_tests) in let bad : true ≡ false = sym yes ∙ h in cc)

          at : (s : Bool) → (s || nat_lt 0 (length (cond s [] (under mine waits)))) ≡ false → under mine waits ≡ []
          at true h = absurd cc
          at false h = nothing (under mine waits) h

      by_name : (m : Name) (b : Bool) → is_name m mine ≡ b → map piece (under m waits) ≡ cond b [] (map piece (under m waits))
      by_name m true e = ap (λ (x : Name). map piece (under x waits)) (name-one m mine e) ∙ ap (map piece) empty
      by_name m false e = refl

      names : (unmade kept).under ≡ (closed p kept).under
      names = fun_ext (λ m. by_name m (is_name m mine) refl)

      closed_there : bit (is_open (map piece (under mine waits))) ≡ 0
      closed_there = ap (λ (qs : List Packet). bit (is_open (map piece qs))) empty

      count : (unmade kept).open_count ≡ (closed p kept).open_count
      count = omega (arith, closed_there)

  -- the bytes of the message
  bytes_carried : (qs : List Packet) → carried (map piece qs) ≡ flat_map (λ q. q.payload) qs
  bytes_carried [] = refl
  bytes_carried (q ∷ qs) = ap (λ (rest : List ℕ). q.payload ++ rest) (bytes_carried qs)

  bytes_so : (let none : List ℕ = [] in cond p.start p.payload (cond p.start none (carried (taken_under p kept ++ piece p ∷ [])))) ≡ whole p waits
  bytes_so = at p.start
    where
      at : (s : Bool) → (let none : List ℕ = [] in cond s p.payload (cond s none (carried (taken_under p kept ++ piece p ∷ [])))) ≡ flat_map (λ q. q.payload) (cond s [] (under mine waits) ++ p ∷ [])
      at true = sym (append-nil p.payload)
      at false = ap carried (sym (map-append piece (under mine waits) (p ∷ []))) ∙ bytes_carried (under mine waits ++ p ∷ [])

  -- a packet is taken where it isn't dropped
  abbrev pub Agrees : Bool → Option DropCause → Type 0
  Agrees true None = Unit {0}
  Agrees false (Some cause) = Unit {0}
  Agrees _ _ = ⊥

  pub record IsKept (eid : ℕ) : Type 0 where
    pub made_then : List ℕ
    pub is : after eid kept p ≡ seen_as (waits_after eid p waits) made_then
    pub orderly_then : IsOrderly (waits_after eid p waits)
    pub agrees : Agrees (is_taken eid p waits) (drop_cause eid kept p)
    pub ends : is_taken eid p waits ≡ true → p.end ≡ true → cond p.start p.payload made_then ≡ whole p waits

  abbrev first_of : Bool → Bool → Bool → Bool → Bool → Bool → Option DropCause
  first_of a b c d e f = cond a (Some NotOurs) (cond b (Some NoStart) (cond c (Some TooLong) (cond d (Some OutOfSequence) (cond e (Some UnitSize) (cond f (Some NoSlot) None)))))

  module _ (eid : ℕ) where
    cause_is : drop_cause eid kept p
        ≡ first_of (not (is_meant eid p)) (not (p.start || nat_lt 0 (length (joined p waits)))) (not (nat_lt (length (joined p waits)) 4)) (not (p.sequence == length (joined p waits)))
        (not (p.end || length p.payload == 64)) (not (not p.start || p.end || nat_lt (starts (others p waits)) 8))
    cause_is = λ i. first_of (not (is_meant eid p)) (no_start i) (too_long i) (out_of_sequence i) (unit i) (no_slot i)

    -- what is kept, by the tests
    abbrev waits_by : Bool → Bool → Bool → List Packet
    waits_by ours fit ends = cond ours (others p waits ++ cond ((ours && fit) && not ends) (joined p waits ++ p ∷ []) []) waits

    record KeptBy (ours fit ends : Bool) (cause : Option DropCause) : Type 0 where
      pub made_by : List ℕ
      pub is_by : after_where cause p kept ≡ seen_as (waits_by ours fit ends) made_by
      pub orderly_by : IsOrderly (waits_by ours fit ends)
      pub agrees_by : Agrees (ours && fit) cause
      pub ends_by : (ours && fit) ≡ true → ends ≡ true → cond p.start p.payload made_by ≡ whole p waits

    orderly_shut : IsOrderly (others p waits ++ [])
    orderly_shut = still_orderly mine waits [] tt orderly made refl

    closes : (cause : DropCause) (ends : Bool) → after_where (Some cause) p kept ≡ closed p kept → KeptBy true false ends (Some cause)
    closes cause ends e = record { made_by = []; is_by = e ∙ shut; orderly_by = orderly_shut; agrees_by = tt; ends_by = λ no. absurd cc }

    ends_so : (some : (p.start || nat_lt 0 (length (joined p waits))) ≡ true) (ends : Bool) → p.end ≡ ends → KeptBy true true ends None
    ends_so some true e = record {
      made_by = cond p.start [] (carried (taken_under p kept ++ piece p ∷ []));
      is_by = ap (λ b. cond b (ended p kept) (kept_with p kept)) e ∙ (λ i. record { under = (shut i).under; open_count = (shut i).open_count; made = cond p.start [] (carried (taken_under p kept ++ piece p ∷ [])) });
      orderly_by = orderly_shut;
      agrees_by = tt;
      ends_by = λ yes ended. bytes_so;
    }
    ends_so some false e = record {
      made_by = [];
      is_by = ap (λ b. cond b (ended p kept) (kept_with p kept)) e ∙ pushed some;
      orderly_by = still_orderly mine waits (joined p waits ++ p ∷ []) (named_push (joined p waits) joined_named) orderly made (one_start some);
      agrees_by = tt;
      ends_by = λ yes no. absurd cc;
    }

    by_tests : (a b c d e f : Bool) → (p.start || nat_lt 0 (length (joined p waits))) ≡ b → KeptBy a ((b && c) && (d && (e && f))) p.end (first_of (not a) (not b) (not c) (not d) (not e) (not f))
    by_tests false b c d e f is = record { made_by = []; is_by = refl; orderly_by = orderly; agrees_by = tt; ends_by = λ no. absurd cc }
    by_tests true false c d e f is = record { made_by = []; is_by = left_so is ∙ shut; orderly_by = orderly_shut; agrees_by = tt; ends_by = λ no. absurd cc }
    by_tests true true false d e f is = closes TooLong p.end refl
    by_tests true true true false e f is = closes OutOfSequence p.end refl
    by_tests true true true true false f is = closes UnitSize p.end refl
    by_tests true true true true true false is = closes NoSlot p.end refl
    by_tests true true true true true true is = ends_so is p.end refl

    pub is_kept : IsKept eid
    is_kept =
        let k = by_tests (is_meant eid p) (p.start || nat_lt 0 (length (joined p waits))) (nat_lt (length (joined p waits)) 4) (p.sequence == length (joined p waits))
        (p.end || length p.payload == 64) (not p.start || p.end || nat_lt (starts (others p waits)) 8) refl in
        record {
          made_then = k.made_by;
          is = ap (λ (c : Option DropCause). after_where c p kept) cause_is ∙ k.is_by;
          orderly_then = k.orderly_by;
          agrees = subst (Agrees (is_taken eid p waits)) (sym cause_is) k.agrees_by;
          ends = k.ends_by;
        }

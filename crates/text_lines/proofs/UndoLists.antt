-- Undo texts and their lists: each text stands for one list at most, or has one first bad line.
use Rattle.std.proofs.Common.{◌≡◌, ◌≢◌, ◌<◌, ◌≤◌, ◌+◌, ◌⊎◌, inl, inr, ℕ, suc, zero, List, [], ◌∷◌, ◌++◌, length, map, reverse, arith, refl, sym, ◌∙◌, ap, subst, append_assoc, drop, drop-cons, add-one, slice_index_or, Option, Some, None, Bool, true, false, ◌==◌}
use Rattle.std.specs.List.{AllByRecursion, AllZip, All, flat_map, slice_get}
use Rattle.std.proofs.lemmas.Option.{slice_get_within}
use Rattle.std.proofs.lemmas.Grind.{flat_map-append}
use Rattle.std.proofs.lemmas.List.{reverse-reverse, reverse-append, map-append}
use Rattle.std.proofs.lemmas.Slice.Zip.{AllZip-long}
use Rattle.text_lines.specs.Cuts.{LacksByte, ended}
use Rattle.text_lines.proofs.Cuts.{same_cut}
use Rattle.record_base.specs.declared.message.Asked.{Asked}
use Rattle.undo_plans.specs.declared.names.Names.{Names}
use Rattle.undo_plans.specs.declared.undo_list.NextNumbers.{NextNumbers}
use Rattle.undo_plans.specs.declared.undo_list.UndoList.{UndoList}
use Rattle.text_lines.specs.declared.undo_text.UndoFault.{UndoFault}
use Rattle.text_lines.specs.declared.undo_text.UndoFault.TheVariants as fault
use Rattle.text_lines.specs.declared.undo_version.Version.{Version}
use Rattle.text_lines.specs.declared.undo_version.Version.TheVariants.{One, Two}
use Rattle.text_lines.specs.Versions.{version_line, head_length}
use Rattle.text_lines.specs.UndoText.{version_of, numbers_line, IsNumbersLine, IsNamesLine, AreNamesLines, IsRequestLine, IsPlain, BeginsWith, IsGood, AllGood, IsFirstBadFrom, IsFirstBad, AreLinesOf, IsTextOf, AreAlike, line_of}
use Rattle.text_lines.proofs.NamesLines.{one_names}
use Rattle.text_lines.proofs.UndoLines.{version_lacks, one_version, good_lacks, one_numbers, one_request}

-- ---- lines and their line feeds

-- a line with its line feed, and what stands behind
regroup : (line rest : List ℕ) → ended line ++ rest ≡ line ++ 10 ∷ rest
regroup line rest = append_assoc line (10 ∷ []) rest

never_empty : (line rest : List ℕ) → line ++ 10 ∷ rest ≡ [] → ⊥
never_empty [] rest e = cc e
never_empty (b ∷ line) rest e = cc e

goods_lack : (version : Version) (n : ℕ) (lines : List (List ℕ)) → AllGood version n lines → AllByRecursion (LacksByte 10) lines
goods_lack version n [] g = tt
goods_lack version n (line ∷ lines) g = (good_lacks version n line g.0, goods_lack version (n + 1) lines g.1)

-- a text has one list of lines
one_lines : (xs ys : List (List ℕ)) → AllByRecursion (LacksByte 10) xs → AllByRecursion (LacksByte 10) ys → flat_map ended xs ≡ flat_map ended ys → xs ≡ ys
one_lines [] [] l m e = refl
one_lines [] (y ∷ ys) l m e = absurd (never_empty y (flat_map ended ys) (sym (e ∙ regroup y (flat_map ended ys))))
one_lines (x ∷ xs) [] l m e = absurd (never_empty x (flat_map ended xs) (sym (regroup x (flat_map ended xs)) ∙ e))
one_lines (x ∷ xs) (y ∷ ys) l m e =
    let parts = same_cut 10 x (flat_map ended xs) y (flat_map ended ys) (sym (regroup x (flat_map ended xs)) ∙ e ∙ regroup y (flat_map ended ys)) l.0 m.0 in
    let rest = one_lines xs ys l.1 m.1 parts.1 in
    cc (parts.0, rest)

-- ---- good lines

-- lines of requests are good behind the head
requests_good : (version : Version) (n : ℕ) (lines : List (List ℕ)) (requests : List Asked) → head_length version < n → n + length lines ≤ head_length version + 257 → AllZip IsRequestLine lines requests → AllGood version n lines
requests_good version n [] requests low high z = tt
requests_good version n (line ∷ lines) [] low high z = absurd z
requests_good version n (line ∷ lines) (asked ∷ requests) low high z =
    (inr (inr (low, omega (arith, high), (asked, z.0))), requests_good version (n + 1) lines requests (omega (arith, low)) (omega (arith, high)) z.1)

-- and so are those of the names in front of them
names_good : (names lines : List (List ℕ)) (o : Option Names) (requests : List Asked) → AreNamesLines names o → AllZip IsRequestLine lines requests → length lines ≤ 256 → AllGood (version_of o) 3 (names ++ lines)
names_good [] lines None requests are z few = requests_good One 3 lines requests (omega arith) (omega (arith, few)) z
names_good [] lines (Some names) requests are z few = absurd are
names_good (line ∷ []) lines None requests are z few = absurd are
names_good (line ∷ []) lines (Some names) requests are z few = (inr (inl (refl, refl, (names, are))), requests_good Two 4 lines requests (omega arith) (omega (arith, few)) z)
names_good (line ∷ other ∷ more) lines o requests are z few = absurd are

-- the lines behind the version
abbrev behind_version : (text : List ℕ) (list : UndoList) → IsTextOf text list → List (List ℕ)
behind_version text list s = numbers_line list.next ∷ (s.names ++ s.lines)

stands_good : (text : List ℕ) (list : UndoList) (s : IsTextOf text list) → AllGood (version_of list.names) 2 (behind_version text list s)
stands_good text list s = (inl (refl, (list.next, s.next)), names_good s.names s.lines list.names (reverse list.requests.members) s.named s.each s.few)

stands_lack : (text : List ℕ) (list : UndoList) (s : IsTextOf text list) → AllByRecursion (LacksByte 10) (version_line (version_of list.names) ∷ behind_version text list s)
stands_lack text list s = (version_lacks (version_of list.names), goods_lack (version_of list.names) 2 (behind_version text list s) (stands_good text list s))

-- there are lines enough in front of the requests
head_enough : (names lines : List (List ℕ)) (o : Option Names) → AreNamesLines names o → head_length (version_of o) < 3 + length (names ++ lines)
head_enough [] lines None are = omega arith
head_enough [] lines (Some names) are = absurd are
head_enough (line ∷ []) lines None are = absurd are
head_enough (line ∷ []) lines (Some names) are = omega arith
head_enough (line ∷ other ∷ more) lines o are = absurd are

-- ---- the laws

same_told : (lines : List (List ℕ)) (xs ys : List Asked) → AllZip IsRequestLine lines xs → AllZip IsRequestLine lines ys → xs ≡ ys
same_told [] [] [] z w = refl
same_told [] (x ∷ xs) ys z w = absurd z
same_told [] [] (y ∷ ys) z w = absurd w
same_told (l ∷ lines) [] ys z w = absurd z
same_told (l ∷ lines) (x ∷ xs) [] z w = absurd w
same_told (l ∷ lines) (x ∷ xs) (y ∷ ys) z w =
    let head = one_request l x y z.0 w.0 in
    let rest = same_told lines xs ys z.1 w.1 in
    cc (head, rest)

-- the names' lines of one version are those of the same names, in front of the same lines
same_behind : (names others lines more : List (List ℕ)) (o p : Option Names) → AreNamesLines names o → AreNamesLines others p → version_of o ≡ version_of p → names ++ lines ≡ others ++ more → (o ≡ p) × (lines ≡ more)
same_behind [] [] lines more None None a b same e = (refl, e)
same_behind (line ∷ []) (other ∷ []) lines more (Some n) (Some m) a b same e =
    let first : other ≡ line = cc e in
    let rest : lines ≡ more = cc e in
    let one : n ≡ m = one_names line n m a (subst (λ (l : List ℕ). IsNamesLine l m) first b) in
    (ap (λ (x : Names). Some x) one, rest)
same_behind [] (other ∷ []) lines more None (Some m) a b same e = cc same
same_behind (line ∷ []) [] lines more (Some n) None a b same e = cc same
same_behind [] others lines more (Some n) p a b same e = absurd a
same_behind (line ∷ []) others lines more None p a b same e = absurd a
same_behind (line ∷ second ∷ names) others lines more o p a b same e = absurd a
same_behind names [] lines more o (Some m) a b same e = absurd b
same_behind names (other ∷ []) lines more o None a b same e = absurd b
same_behind names (other ∷ second ∷ others) lines more o p a b same e = absurd b

-- the lists that a text stands for say the same
pub one_list : (text : List ℕ) (a b : UndoList) → IsTextOf text a → IsTextOf text b → AreAlike a b
one_list text a b p q =
    let lines = one_lines (version_line (version_of a.names) ∷ behind_version text a p) (version_line (version_of b.names) ∷ behind_version text b q)
    (stands_lack text a p) (stands_lack text b q) (sym p.spelt ∙ q.spelt) in
    let version : version_line (version_of a.names) ≡ version_line (version_of b.names) = cc lines in
    let first : numbers_line b.next ≡ numbers_line a.next = cc lines in
    let rest : p.names ++ p.lines ≡ q.names ++ q.lines = cc lines in
    let behind = same_behind p.names q.names p.lines q.lines a.names b.names p.named q.named (one_version (version_of a.names) (version_of b.names) version) rest in
    let next = one_numbers (numbers_line a.next) a.next b.next p.next (subst (λ (l : List ℕ). IsNumbersLine l b.next) first q.next) in
    let requests = same_told p.lines (reverse a.requests.members) (reverse b.requests.members) p.each (subst (λ (ls : List (List ℕ)). AllZip IsRequestLine ls (reverse b.requests.members)) (sym behind.1) q.each) in
    record { requests = sym (reverse-reverse a.requests.members) ∙ ap reverse requests ∙ reverse-reverse b.requests.members; next = next; names = behind.0 }

-- lines that are all good, and enough, have no first bad one
none_bad : (version : Version) (k : ℕ) (lines before : List (List ℕ)) (rest : List ℕ) (n : ℕ) → AllGood version k lines → AllGood version k before → flat_map ended lines ≡ flat_map ended before ++ rest
    → n ≡ k + length before → ((more : List ℕ) → ¬ BeginsWith (IsGood version n) rest more) → (rest ≢ []) ⊎ (n ≤ head_length version) → head_length version < k + length lines → ⊥
none_bad version k [] [] rest n g h e at bad (inl some) enough = some (sym e)
none_bad version k [] [] rest n g h e at bad (inr few) enough = omega (arith, at, few, enough)
none_bad version k (l ∷ lines) [] rest n g h e at bad wanted enough =
    let same : k ≡ n = omega (arith, at) in
    bad (flat_map ended lines) (l, sym e ∙ regroup l (flat_map ended lines), subst (λ (i : ℕ). IsGood version i l) same g.0)
none_bad version k [] (b ∷ before) rest n g h e at bad wanted enough =
    never_empty b (flat_map ended before ++ rest) (sym (e ∙ append_assoc (ended b) (flat_map ended before) rest ∙ regroup b (flat_map ended before ++ rest)))
none_bad version k (l ∷ lines) (b ∷ before) rest n g h e at bad wanted enough =
    let parts = same_cut 10 l (flat_map ended lines) b (flat_map ended before ++ rest)
    (sym (regroup l (flat_map ended lines)) ∙ e ∙ append_assoc (ended b) (flat_map ended before) rest ∙ regroup b (flat_map ended before ++ rest))
    (good_lacks version k l g.0) (good_lacks version k b h.0) in
    none_bad version (k + 1) lines before rest n g.1 h.1 parts.1 (omega (arith, at)) bad wanted (omega (arith, enough))

-- a text whose first line is a version is no text of another, and goes on in one way
same_version : (a b : Version) (text rest more : List ℕ) → text ≡ ended (version_line a) ++ rest → text ≡ ended (version_line b) ++ more → (a ≡ b) × (rest ≡ more)
same_version a b text rest more p q =
    let parts = same_cut 10 (version_line a) rest (version_line b) more (sym (regroup (version_line a) rest) ∙ sym p ∙ q ∙ regroup (version_line b) more) (version_lacks a) (version_lacks b) in
    (one_version a b parts.0, parts.1)

pub apart : (text : List ℕ) (list : UndoList) (n : ℕ) → IsTextOf text list → IsFirstBad text n → ⊥
apart text list n s (inl bad) = bad.1 (version_of list.names) (flat_map ended (behind_version text list s)) s.spelt
apart text list n s (inr (version, rest, e, from)) =
    let same = same_version (version_of list.names) version text (flat_map ended (behind_version text list s)) rest s.spelt e in
    let bad : IsFirstBadFrom (version_of list.names) 2 rest n = subst (λ (v : Version). IsFirstBadFrom v 2 rest n) (sym same.0) from in
    none_bad (version_of list.names) 2 (behind_version text list s) bad.before bad.rest n (stands_good text list s) bad.good (same.1 ∙ bad.spelt) bad.place bad.bad bad.wanted
    (omega (arith, head_enough s.names s.lines list.names s.named))

-- a text has one first bad line
one_bad : (version : Version) (k : ℕ) (before after : List (List ℕ)) (rest more : List ℕ) (m n : ℕ) → AllGood version k before → AllGood version k after → flat_map ended before ++ rest ≡ flat_map ended after ++ more
    → m ≡ k + length before → n ≡ k + length after → ((x : List ℕ) → ¬ BeginsWith (IsGood version m) rest x) → ((x : List ℕ) → ¬ BeginsWith (IsGood version n) more x) → m ≡ n
one_bad version k [] [] rest more m n g h e at to bad worse = omega (arith, at, to)
one_bad version k [] (a ∷ after) rest more m n g h e at to bad worse =
    let same : k ≡ m = omega (arith, at) in
    absurd (bad (flat_map ended after ++ more) (a, e ∙ append_assoc (ended a) (flat_map ended after) more ∙ regroup a (flat_map ended after ++ more), subst (λ (i : ℕ). IsGood version i a) same h.0))
one_bad version k (b ∷ before) [] rest more m n g h e at to bad worse =
    let same : k ≡ n = omega (arith, to) in
    absurd (worse (flat_map ended before ++ rest) (b, sym e ∙ append_assoc (ended b) (flat_map ended before) rest ∙ regroup b (flat_map ended before ++ rest), subst (λ (i : ℕ). IsGood version i b) same g.0))
one_bad version k (b ∷ before) (a ∷ after) rest more m n g h e at to bad worse =
    let parts = same_cut 10 b (flat_map ended before ++ rest) a (flat_map ended after ++ more)
    (sym (append_assoc (ended b) (flat_map ended before) rest ∙ regroup b (flat_map ended before ++ rest)) ∙ e ∙ append_assoc (ended a) (flat_map ended after) more ∙ regroup a (flat_map ended after ++ more))
    (good_lacks version k b g.0) (good_lacks version k a h.0) in
    one_bad version (k + 1) before after rest more m n g.1 h.1 parts.1 (omega (arith, at)) (omega (arith, to)) bad worse

pub one_first_bad : (text : List ℕ) (m n : ℕ) → IsFirstBad text m → IsFirstBad text n → m ≡ n
one_first_bad text m n (inl p) (inl q) = p.0 ∙ sym q.0
one_first_bad text m n (inl p) (inr (version, rest, e, from)) = absurd (p.1 version rest e)
one_first_bad text m n (inr (version, rest, e, from)) (inl q) = absurd (q.1 version rest e)
one_first_bad text m n (inr (version, rest, e, from)) (inr (other, more, f, to)) =
    let same = same_version version other text rest more e f in
    let q : IsFirstBadFrom version 2 more n = subst (λ (v : Version). IsFirstBadFrom v 2 more n) (sym same.0) to in
    one_bad version 2 from.before q.before from.rest q.rest m n from.good q.good (sym from.spelt ∙ same.1 ∙ q.spelt) from.place q.place from.bad q.bad

-- ---- reading on

-- the text begins with the lines of these requests, and the rest stands behind them
pub record Begun (text : List ℕ) (requests : List Asked) (rest : List ℕ) : Type 0 where
  pub lines : List (List ℕ)
  pub spelt : text ≡ flat_map ended lines ++ rest
  pub each : AllZip IsRequestLine lines requests

zip_push : (lines : List (List ℕ)) (requests : List Asked) (line : List ℕ) (asked : Asked) → AllZip IsRequestLine lines requests → IsRequestLine line asked → AllZip IsRequestLine (lines ++ line ∷ []) (requests ++ asked ∷ [])
zip_push [] [] line asked z r = (r, tt)
zip_push [] (t ∷ requests) line asked z r = absurd z
zip_push (l ∷ lines) [] line asked z r = absurd z
zip_push (l ∷ lines) (t ∷ requests) line asked z r = (z.0, zip_push lines requests line asked z.1 r)

nil_behind : (xs : List ℕ) → xs ++ [] ≡ xs
nil_behind [] = refl
nil_behind (x ∷ xs) = ap (λ (l : List ℕ). x ∷ l) (nil_behind xs)

pub begun_more : (text : List ℕ) (requests : List Asked) (rest more : List ℕ) (asked : Asked) → Begun text requests rest → BeginsWith (λ line. IsRequestLine line asked) rest more → Begun text (requests ++ asked ∷ []) more
begun_more text requests rest more asked b next =
    let split = flat_map-append ended b.lines (next.0 ∷ []) in
    let last : flat_map ended (next.0 ∷ []) ≡ ended next.0 = nil_behind (ended next.0) in
    let front : flat_map ended (b.lines ++ next.0 ∷ []) ++ more ≡ flat_map ended b.lines ++ (next.0 ++ 10 ∷ more) =
    ap (λ (l : List ℕ). l ++ more) (split ∙ ap (λ (l : List ℕ). flat_map ended b.lines ++ l) last) ∙ append_assoc (flat_map ended b.lines) (ended next.0) more ∙ ap (λ (l : List ℕ). flat_map ended b.lines ++ l) (regroup next.0 more) in
    record {
      lines = b.lines ++ next.0 ∷ [];
      spelt = b.spelt ∙ ap (λ (l : List ℕ). flat_map ended b.lines ++ l) next.1 ∙ sym front;
      each = zip_push b.lines requests next.0 asked b.each next.2;
    }

-- a rest that begins with no request is no good line behind the head
pub no_request : (version : Version) (n : ℕ) (rest : List ℕ) → head_length version < n → ((more : List ℕ) (asked : Asked) → ¬ BeginsWith (λ line. IsRequestLine line asked) rest more) → (more : List ℕ) → ¬ BeginsWith (IsGood version n) rest more
no_request One n rest low none more (line, e, inl g) = omega (arith, g.0, low)
no_request Two n rest low none more (line, e, inl g) = omega (arith, g.0, low)
no_request One n rest low none more (line, e, inr (inl g)) = cc (g.0)
no_request Two n rest low none more (line, e, inr (inl g)) = omega (arith, g.1, low)
no_request version n rest low none more (line, e, inr (inr g)) = none more g.2.0 (line, e, g.2.1)

-- nor is any line behind the last
pub past : (version : Version) (n : ℕ) (rest : List ℕ) → head_length version + 257 ≤ n → (more : List ℕ) → ¬ BeginsWith (IsGood version n) rest more
past version n rest low more (line, e, inl g) = omega (arith, g.0, low)
past version n rest low more (line, e, inr (inl g)) = omega (arith, g.1, low)
past version n rest low more (line, e, inr (inr g)) = omega (arith, g.1, low)

pub begun_bad : (version : Version) (text : List ℕ) (requests : List Asked) (rest : List ℕ) (n : ℕ) → Begun text requests rest → n ≡ head_length version + 1 + length requests → length requests ≤ 256 → rest ≢ []
    → ((more : List ℕ) → ¬ BeginsWith (IsGood version n) rest more) → IsFirstBadFrom version (head_length version + 1) text n
begun_bad version text requests rest n b at few some bad =
    let long : length requests ≡ length b.lines = AllZip-long IsRequestLine b.lines requests b.each in
    record {
      before = b.lines;
      rest = rest;
      spelt = b.spelt;
      place = omega (arith, at, long);
      good = requests_good version (head_length version + 1) b.lines requests (omega arith) (omega (arith, long, few)) b.each;
      bad = bad;
      wanted = inl some;
    }

-- a good line in front of a text leaves its first bad line
pub bad_behind : (version : Version) (k : ℕ) (line text whole : List ℕ) (n : ℕ) → whole ≡ line ++ 10 ∷ text → IsGood version k line → IsFirstBadFrom version (k + 1) text n → IsFirstBadFrom version k whole n
bad_behind version k line text whole n e good b = record {
  before = line ∷ b.before;
  rest = b.rest;
  spelt = e ∙ sym (regroup line text) ∙ ap (λ (l : List ℕ). ended line ++ l) b.spelt ∙ sym (append_assoc (ended line) (flat_map ended b.before) b.rest);
  place = omega (arith, b.place);
  good = (good, b.good);
  bad = b.bad;
  wanted = b.wanted;
}

-- a text that goes on behind its version without numbers has a bad line 2
pub bad_numbers : (version : Version) (text rest : List ℕ) → text ≡ ended (version_line version) ++ rest → ((more : List ℕ) (next : NextNumbers) → ¬ BeginsWith (λ line. IsNumbersLine line next) rest more) → IsFirstBad text 2
bad_numbers version text rest e none =
    inr (version, rest, e, record { before = []; rest = rest; spelt = refl; place = refl; good = tt; bad = no_numbers version; wanted = inr (short version) })
  where
    no_numbers : (v : Version) → (more : List ℕ) → ¬ BeginsWith (IsGood v 2) rest more
    no_numbers v more (line, f, inl g) = none more g.1.0 (line, f, g.1.1)
    no_numbers v more (line, f, inr (inl g)) = omega (arith, g.1)
    no_numbers One more (line, f, inr (inr g)) = omega (arith, g.0)
    no_numbers Two more (line, f, inr (inr g)) = omega (arith, g.0)

    short : (v : Version) → 2 ≤ head_length v
    short One = omega arith
    short Two = omega arith

-- what is bad behind the numbers is bad in the text
behind_numbers : (version : Version) (text rest more : List ℕ) (next : NextNumbers) (n : ℕ) → text ≡ ended (version_line version) ++ rest → BeginsWith (λ line. IsNumbersLine line next) rest more
    → IsFirstBadFrom version 3 more n → IsFirstBad text n
behind_numbers version text rest more next n e second bad = inr (version, rest, e, bad_behind version 2 second.0 more rest n second.1 (inl (refl, (next, second.2))) bad)

-- one that goes on behind them without names has a bad line 3, in version 2
pub bad_names : (version : Version) (text rest more : List ℕ) (next : NextNumbers) → version ≡ Two → text ≡ ended (version_line version) ++ rest → BeginsWith (λ line. IsNumbersLine line next) rest more
    → ((back : List ℕ) (names : Names) → ¬ BeginsWith (λ line. IsNamesLine line names) more back) → IsFirstBad text 3
bad_names version text rest more next two e second none =
    behind_numbers version text rest more next 3 e second
    (subst (λ (v : Version). IsFirstBadFrom v 3 more 3) (sym two)
    (record { before = []; rest = more; spelt = refl; place = refl; good = tt; bad = no_names; wanted = inr (omega arith) }))
  where
    no_names : (back : List ℕ) → ¬ BeginsWith (IsGood Two 3) more back
    no_names back (line, f, inl g) = omega (arith, g.0)
    no_names back (line, f, inr (inl g)) = none back g.2.0 (line, f, g.2.1)
    no_names back (line, f, inr (inr g)) = omega (arith, g.0)

-- the line of the names at the front of a text
pub names_ended : (text rest : List ℕ) (names : Names) → BeginsWith (λ line. IsNamesLine line names) text rest → (lines : List (List ℕ)) × AreNamesLines lines (Some names) × (text ≡ flat_map ended lines ++ rest)
names_ended text rest names b =
    (b.0 ∷ [], b.2, b.1 ∙ sym (regroup b.0 rest) ∙ ap (λ (l : List ℕ). l ++ rest) (sym (nil_behind (ended b.0))))

-- a bad line of a request, behind the lines of the names
pub bad_request : (o : Option Names) (names : List (List ℕ)) (text rest more back : List ℕ) (next : NextNumbers) (n : ℕ) → text ≡ ended (version_line (version_of o)) ++ rest → BeginsWith (λ line. IsNumbersLine line next) rest more
    → AreNamesLines names o → more ≡ flat_map ended names ++ back → IsFirstBadFrom (version_of o) (head_length (version_of o) + 1) back n → IsFirstBad text n
bad_request None [] text rest more back next n e second are f bad = behind_numbers One text rest more next n e second (subst (λ (m : List ℕ). IsFirstBadFrom One 3 m n) (sym f) bad)
bad_request (Some names) (line ∷ []) text rest more back next n e second are f bad =
    let spelt : more ≡ line ++ 10 ∷ back = f ∙ ap (λ (l : List ℕ). l ++ back) (nil_behind (ended line)) ∙ regroup line back in
    behind_numbers Two text rest more next n e second (bad_behind Two 3 line back more n spelt (inr (inl (refl, refl, (names, are)))) bad)
bad_request None (line ∷ []) text rest more back next n e second are f bad = absurd are
bad_request (Some names) [] text rest more back next n e second are f bad = absurd are
bad_request o (line ∷ other ∷ lines) text rest more back next n e second are f bad = absurd are

-- what stands in front of the requests: the version, the numbers and the names
pub record Headed (text back : List ℕ) (next : NextNumbers) (o : Option Names) : Type 0 where
  pub rest : List ℕ
  pub more : List ℕ
  pub version : text ≡ ended (version_line (version_of o)) ++ rest
  pub second : BeginsWith (λ line. IsNumbersLine line next) rest more
  pub names : List (List ℕ)
  pub are : AreNamesLines names o
  pub behind : more ≡ flat_map ended names ++ back

pub headed : (version : Version) (text rest more back : List ℕ) (next : NextNumbers) (o : Option Names) → version_of o ≡ version → text ≡ ended (version_line version) ++ rest → BeginsWith (λ line. IsNumbersLine line next) rest more
    → (lines : List (List ℕ)) × AreNamesLines lines o × (more ≡ flat_map ended lines ++ back) → Headed text back next o
headed version text rest more back next o same e second named = record {
  rest = rest;
  more = more;
  version = subst (λ (v : Version). text ≡ ended (version_line v) ++ rest) (sym same) e;
  second = second;
  names = named.0;
  are = named.1;
  behind = named.2;
}

-- the list that was read
pub read_is : (text back : List ℕ) (next : NextNumbers) (o : Option Names) (requests : List Asked) (list : UndoList) → Headed text back next o → AreLinesOf back requests → length requests ≤ 256
    → list.next ≡ next → list.names ≡ o → list.requests.members ≡ reverse requests → IsTextOf text list
read_is text back next o requests list h are few same named turned =
    let numbers : IsNumbersLine h.second.0 list.next = subst (λ (x : NextNumbers). IsNumbersLine h.second.0 x) (sym same) h.second.2 in
    let turned_back : reverse list.requests.members ≡ requests = ap reverse turned ∙ reverse-reverse requests in
    let long : length requests ≡ length are.lines = AllZip-long IsRequestLine are.lines requests are.each in
    let second_line : h.rest ≡ ended (numbers_line list.next) ++ h.more = h.second.1 ∙ ap (λ (l : List ℕ). l ++ 10 ∷ h.more) numbers.spelt ∙ sym (regroup (numbers_line list.next) h.more) in
    let others : h.more ≡ flat_map ended (h.names ++ are.lines) = h.behind ∙ ap (λ (l : List ℕ). flat_map ended h.names ++ l) are.spelt ∙ sym (flat_map-append ended h.names are.lines) in
    let whole : text ≡ flat_map ended (version_line (version_of o) ∷ numbers_line list.next ∷ (h.names ++ are.lines)) =
    h.version ∙ ap (λ (l : List ℕ). ended (version_line (version_of o)) ++ l) (second_line ∙ ap (λ (l : List ℕ). ended (numbers_line list.next) ++ l) others) in
    record {
      names = h.names;
      lines = are.lines;
      spelt = subst (λ (p : Option Names). text ≡ flat_map ended (version_line (version_of p) ∷ numbers_line list.next ∷ (h.names ++ are.lines))) (sym named) whole;
      next = record { spelt = refl; ipmb = numbers.ipmb; smbus = numbers.smbus };
      named = subst (λ (p : Option Names). AreNamesLines h.names p) (sym named) h.are;
      each = subst (λ (xs : List Asked). AllZip IsRequestLine are.lines xs) (sym turned_back) are.each;
      few = omega (arith, few, long);
    }

-- ---- turning the requests round

-- ---- writing on

get_is : (xs : List Asked) (p : ℕ) (x : Asked) → slice_get xs p ≡ Some x → slice_index_or xs p x ≡ x
get_is [] p x e = refl
get_is (y ∷ ys) zero x e = cc e
get_is (y ∷ ys) (suc p) x e = get_is ys p x e

drop_get : (xs : List Asked) (p : ℕ) (x : Asked) → slice_get xs p ≡ Some x → drop p xs ≡ x ∷ drop (p + 1) xs
drop_get xs p x e =
    let within : p < length xs = slice_get_within xs p x e in
    rw (drop-cons xs p x, get_is xs p x e, add-one) refl

-- the lines of the requests from a place on, that of the last first
pub record Pushed (requests : List Asked) (place : ℕ) (old new : List ℕ) : Type 0 where
  pub text : new ≡ old ++ flat_map ended (map line_of (reverse (drop place requests)))
  pub each : All IsPlain requests → AllZip IsRequestLine (map line_of (reverse (drop place requests))) (reverse (drop place requests))

pub pushed_more : (requests : List Asked) (p place : ℕ) (asked : Asked) (old now new : List ℕ) → place ≡ p + 1 → slice_get requests p ≡ Some asked → Pushed requests place old now
    → new ≡ now ++ ended (line_of asked) → (IsPlain asked → IsRequestLine (line_of asked) asked) → Pushed requests p old new
pushed_more requests p place asked old now new at got b text line =
    let rest = reverse (drop place requests) in
    let from : drop p requests ≡ asked ∷ drop place requests = drop_get requests p asked got ∙ ap (λ (n : ℕ). asked ∷ drop n requests) (sym at) in
    let turned : reverse (drop p requests) ≡ rest ++ asked ∷ [] = ap reverse from ∙ reverse-append (asked ∷ []) (drop place requests) in
    let lines : map line_of (reverse (drop p requests)) ≡ map line_of rest ++ line_of asked ∷ [] = ap (map line_of) turned ∙ map-append line_of rest (asked ∷ []) in
    let flat : flat_map ended (map line_of (reverse (drop p requests))) ≡ flat_map ended (map line_of rest) ++ ended (line_of asked) =
    ap (flat_map ended) lines ∙ flat_map-append ended (map line_of rest) (line_of asked ∷ []) ∙ ap (λ (l : List ℕ). flat_map ended (map line_of rest) ++ l) (nil_behind (ended (line_of asked))) in
    record {
      text = text ∙ ap (λ (l : List ℕ). l ++ ended (line_of asked)) b.text ∙ append_assoc old (flat_map ended (map line_of rest)) (ended (line_of asked)) ∙ ap (λ (l : List ℕ). old ++ l) (sym flat);
      each = λ all.
          let plain : IsPlain asked = subst IsPlain (get_is requests p asked got) (all p asked (slice_get_within requests p asked got)) in
          let both = zip_push (map line_of rest) rest (line_of asked) asked (b.each all) (line plain) in
          subst (λ (l : List (List ℕ)). AllZip IsRequestLine l (reverse (drop p requests))) (sym lines)
          (subst (λ (l : List Asked). AllZip IsRequestLine (map line_of rest ++ line_of asked ∷ []) l) (sym turned) both);
    }

-- ---- what is answered

pub not_empty : (xs : List ℕ) (r : Bool) → r ≡ false → r ≡ (length xs == 0) → xs ≢ []
not_empty xs r left is e =
    let t : r ≡ true = is ∙ ap (λ (l : List ℕ). length l == 0) e in
    let both : true ≡ false = sym t ∙ left in
    cc both

-- a bad line of the requests is one of the text
pub bad_line : (why : UndoFault) (version : Version) (text back : List ℕ) (next : NextNumbers) (o : Option Names) → version_of o ≡ version → Headed text back next o
    → (why ≡ fault.Memory) ⊎ ((n : ℕ) × (why ≡ fault.Line n) × IsFirstBadFrom version (head_length version + 1) back n) → (why ≡ fault.Memory) ⊎ ((n : ℕ) × (why ≡ fault.Line n) × IsFirstBad text n)
bad_line why version text back next o same h (inl memory) = inl memory
bad_line why version text back next o same h (inr b) =
    let bad : IsFirstBadFrom (version_of o) (head_length (version_of o) + 1) back b.0 = subst (λ (v : Version). IsFirstBadFrom v (head_length v + 1) back b.0) (sym same) b.2 in
    inr (b.0, b.1, bad_request o h.names text h.rest h.more back next b.0 h.version h.second h.are h.behind bad)

-- The record of two bytes keeps the laws of a family, and the machine's runs over it compute.
use Rattle.std.proofs.Common.{◌≡◌, ◌≢◌, ℕ, ◌≤◌, ◌<◌, Bool, true, false, List, [], ◌∷◌, ◌++◌, length, Option, Some, None, refl, sym, ◌∙◌, ap, subst, arith, ◌⊎◌, inl, inr}
use Rattle.std.specs.Prelude.{nat_le, nat_lt, if◌then◌else◌}
use Rattle.std.proofs.lemmas.Bool.{leb-true, le-leb, lt-ltb, cond_both, false≢true}
use Rattle.std.proofs.lemmas.Option.{same_Some, none-some}
use Rattle.two_wire.specs.Codes.{success, invalid_data_field}
use Rattle.model_bus.specs.Answered.{Answered}
use Rattle.model_undo.specs.Words.{is_busy, IsOneOf, AllAnswered}
use Rattle.model_undo.specs.Family.{GaveAnswer, SetsTo}
use Rattle.model_undo.specs.IsFamily.{AnswersSet, AreKinds, IsFamily}
use Rattle.model_undo.specs.CleanSeries.{AreFinite}
use Rattle.model_undo.specs.SeriesExample.{Pair, Asked, GetLow, GetHigh, GetAll, SetLow, SetHigh, Both, GetBoth, SetBoth, next, joined, inverse, pairs, Board, IsValid, replied, low_answer, high_answer, answer, Row, Ready, IsRestorable, pair_family, GoesOver}

pub goes_over : GoesOver
goes_over = record { undone = refl; stopped_get = refl; stopped_set = refl; restarted_set = refl; restarted_undo = refl; refused_late = refl; too_short = refl }

-- ---- the record

is_back : (op back value : Pair) (body : List ℕ) → body ≡ value.low ∷ value.high ∷ [] → inverse op body ≡ Some back → value ≡ back
is_back op back value body shows is = same_Some _ _ (sym (ap (inverse op) shows) ∙ is)

kinds : AreKinds pair_family
kinds = record {
  put_back = λ pair key value new found. sym (same_Some _ _ found);
  get_put = λ pair key value new found. refl;
  put_valid = λ pair key new all ok. λ k value found. subst IsValid (same_Some _ _ found) ok;
  sets_valid = λ op old new valid set. subst IsValid (sym set.0) set.1;
  sets_one = λ op old one other set again. set.0 ∙ sym again.0;
  same_key = λ op back value body valid shows is. refl;
  undoes = λ op back value new body valid set shows is. let same = is_back op back value body shows is in (same, subst IsValid same valid);
  restores = λ op back value body valid shows is. subst (IsRestorable op) (sym shows) tt;
  refuses = λ op value body valid shows none can. none-some _ (sym none ∙ ap (inverse op) shows);
  steady = λ key value body other valid shows again. shows ∙ sym again;
}

-- ---- Gets

-- behind the first reply the high byte is next
high_next : (bodies : List (List ℕ)) (asked : Asked) → next GetBoth bodies ≡ Some asked → asked ≡ GetHigh
high_next [] asked is = absurd (none-some asked is)
high_next ([] ∷ []) asked is = absurd (none-some asked is)
high_next ((byte ∷ rest) ∷ []) asked is = sym (same_Some _ _ is)
high_next ([] ∷ y ∷ ys) asked is = absurd (none-some asked is)
high_next ((byte ∷ rest) ∷ y ∷ ys) asked is = absurd (none-some asked is)

no_third : (x y : List ℕ) → next GetBoth (x ∷ y ∷ []) ≡ None
no_third [] y = refl
no_third (byte ∷ rest) y = refl

gets_keep : (b after : Board) (asked : Asked) (a : Answered) → IsOneOf pairs GetBoth asked → Row b asked a after → after.pair ≡ b.pair
gets_keep b after asked a (inl is) row = ap (λ (c : Board). c.pair) (row.1 ∙ ap (λ (x : Asked). (answer b x).1) is)
gets_keep b after asked a (inr is) row = ap (λ (c : Board). c.pair) (row.1 ∙ ap (λ (x : Asked). (answer b x).1) (high_next is.0 asked is.1))

-- what was given shows the byte
low_given : (r : Pair) (asked : Asked) (body : List ℕ) → asked ≡ GetLow → GaveAnswer pair_family r asked (replied success body) → body ≡ r.low ∷ []
low_given r asked body is gave = ap (λ (a : Answered). a.body) (gave.3.0 ∙ ap (λ (x : Asked). (answer gave.0 x).0) is) ∙ ap (λ (p : Pair). p.low ∷ []) gave.2

high_given : (r : Pair) (asked : Asked) (body : List ℕ) → asked ≡ GetHigh → GaveAnswer pair_family r asked (replied success body) → body ≡ r.high ∷ []
high_given r asked body is gave = ap (λ (a : Answered). a.body) (gave.3.0 ∙ ap (λ (x : Asked). (answer gave.0 x).0) is) ∙ ap (λ (p : Pair). p.high ∷ []) gave.2

gets_show : (r : Pair) (bodies : List (List ℕ)) → AllAnswered pairs (GaveAnswer pair_family r) GetBoth bodies → joined GetBoth bodies ≡ r.low ∷ r.high ∷ []
gets_show r [] h = absurd (h.some refl)
gets_show r (x ∷ []) h =
    let one = h.in_order in
    let low = low_given r one.0 x one.1 one.2 in
    absurd (none-some _ (sym h.no_more ∙ ap (λ (l : List ℕ). next GetBoth (l ∷ [])) low))
gets_show r (x ∷ y ∷ []) h =
    let one = h.in_order in
    let two = one.3 in
    let low = low_given r one.0 x one.1 one.2 in
    let high = high_given r two.0 y (high_next (x ∷ []) two.0 two.1) two.2 in
    (λ i. joined GetBoth (low i ∷ high i ∷ []))
gets_show r (x ∷ y ∷ z ∷ zs) h =
    let three = h.in_order.3.3 in
    absurd (none-some three.0 (sym (no_third x y) ∙ three.1))

-- ---- Sets

-- a low byte is staged where there is a place
record Staged (low : ℕ) (b : Board) (a : Answered) (after : Board) : Type 0 where
  code : a.code ≡ success
  kept : after.pair ≡ b.pair
  staged : after.staged ≡ Some low

low_told : (b after : Board) (low : ℕ) (asked : Asked) (a : Answered) → b.others < 8 → asked ≡ SetLow low → Row b asked a after → Staged low b a after
low_told b after low asked a few is row =
    let went : (answer b asked) ≡ (replied success [], record b { staged = Some low }) =
    ap (answer b) is ∙ ap (λ (c : Bool). if c then (replied success [], record b { staged = Some low }) else (replied invalid_data_field [], b)) (lt-ltb _ _ few) in
    record {
      code = ap (λ (x : Answered). x.code) (row.0 ∙ ap (λ (x : Answered × Board). x.0) went);
      kept = ap (λ (x : Board). x.pair) (row.1 ∙ ap (λ (x : Answered × Board). x.1) went);
      staged = ap (λ (x : Board). x.staged) (row.1 ∙ ap (λ (x : Answered × Board). x.1) went);
    }

-- a high byte behind a staged low one sets both, or is refused
record Did (op : Pair) (a : Answered) (after : Board) : Type 0 where
  valid : IsValid op
  code : a.code ≡ success
  set : after.pair ≡ op

record Refused (op : Pair) (b : Board) (a : Answered) (after : Board) : Type 0 where
  not_valid : ¬ IsValid op
  code : a.code ≡ invalid_data_field
  kept : after.pair ≡ b.pair

high_by : (b after : Board) (op : Pair) (a : Answered) (t : Bool) → nat_le op.low op.high ≡ t
    → (let r : Answered × Board = (if t then (replied success [], record b { pair = op; staged = None }) else (replied invalid_data_field [], b)) in (a ≡ r.0) × (after ≡ r.1)) → Did op a after ⊎ Refused op b a after
high_by b after op a true t row = inl (record { valid = leb-true _ _ t; code = ap (λ (x : Answered). x.code) row.0; set = ap (λ (x : Board). x.pair) row.1 })
high_by b after op a false t row = inr (record { not_valid = λ ok. false≢true (sym t ∙ le-leb _ _ ok); code = ap (λ (x : Answered). x.code) row.0; kept = ap (λ (x : Board). x.pair) row.1 })

high_told : (b after : Board) (op : Pair) (asked : Asked) (a : Answered) → b.staged ≡ Some op.low → asked ≡ SetHigh op.high → Row b asked a after → Did op a after ⊎ Refused op b a after
high_told b after op asked a staged is row =
    let went : (answer b asked) ≡ high_answer (Some op.low) op.high b = ap (answer b) is ∙ ap (λ (o : Option ℕ). high_answer o op.high b) staged in
    high_by b after op a (nat_le op.low op.high) refl (subst (λ (r : Answered × Board). (a ≡ r.0) × (after ≡ r.1)) went row)

-- a Set has no third request
no_more_sets : (op : Pair) (x y : List ℕ) (bodies : List (List ℕ)) (b after : Board) (a : Answered) → AnswersSet pair_family op (x ∷ y ∷ bodies) b a after → ⊥
no_more_sets op x y bodies b after a s = none-some s.asked s.is_next

sets_go_on : (b after : Board) (op : Pair) (bodies : List (List ℕ)) (a : Answered) (following : Asked) → AnswersSet pair_family op bodies b a after → a.code ≡ success → next (SetBoth op) (bodies ++ a.body ∷ []) ≡ Some following
    → (after.pair ≡ b.pair) × Ready after (SetBoth op) (bodies ++ a.body ∷ [])
sets_go_on b after op [] a following s e is = let t = low_told b after op.low s.asked a s.ready s.is_next s.row in (t.kept, t.staged)
sets_go_on b after op (x ∷ []) a following s e is = absurd (none-some following is)
sets_go_on b after op (x ∷ y ∷ bodies) a following s e is = absurd (no_more_sets op x y bodies b after a s)

did : (b after : Board) (op : Pair) → IsValid op → after.pair ≡ op → SetsTo pair_family op b.pair after.pair
did b after op valid set = record { before = b.pair; after = op; found = refl; sets = (refl, valid); changed = set }

sets_do : (b after : Board) (op : Pair) (bodies : List (List ℕ)) (a : Answered) → AnswersSet pair_family op bodies b a after → a.code ≡ success → next (SetBoth op) (bodies ++ a.body ∷ []) ≡ None → SetsTo pair_family op b.pair after.pair
sets_do b after op [] a s e is = absurd (none-some _ (sym is))
sets_do b after op (x ∷ []) a s e is = elim (high_told b after op s.asked a s.ready (sym (same_Some _ _ s.is_next)) s.row) [
  | inl d ↦ did b after op d.valid d.set
  | inr r ↦ absurd (let c : success ≡ invalid_data_field = sym e ∙ r.code in omega arith)
]
sets_do b after op (x ∷ y ∷ bodies) a s e is = absurd (no_more_sets op x y bodies b after a s)

-- what a refusal says
refused_so : (b after : Board) (op : Pair) (bodies : List (List ℕ)) (a : Answered) → AnswersSet pair_family op bodies b a after → a.code ≢ success → Refused op b a after
refused_so b after op [] a s ne = absurd (ne (low_told b after op.low s.asked a s.ready s.is_next s.row).code)
refused_so b after op (x ∷ []) a s ne = elim (high_told b after op s.asked a s.ready (sym (same_Some _ _ s.is_next)) s.row) [
  | inl d ↦ absurd (ne d.code)
  | inr r ↦ r
]
refused_so b after op (x ∷ y ∷ bodies) a s ne = absurd (no_more_sets op x y bodies b after a s)

-- ---- each request

low_keeps : (low : ℕ) (b : Board) (P : Answered × Board → Type 0) → P (replied success [], record b { staged = Some low }) → P (replied invalid_data_field [], b) → P (low_answer low b)
low_keeps low b P went stays = cond_both (nat_lt b.others 8) (replied success [], record b { staged = Some low }) (replied invalid_data_field [], b) P (λ _. went) (λ _. stays)

high_keeps : (o : Option ℕ) (high : ℕ) (b : Board) (P : Answered × Board → Type 0) → ((low : ℕ) → P (replied success [], record b { pair = record { low = low; high = high }; staged = None })) → P (replied invalid_data_field [], b)
    → P (high_answer o high b)
high_keeps None high b P went stays = stays
high_keeps (Some low) high b P went stays =
    cond_both (nat_le low high) (replied success [], record b { pair = record { low = low; high = high }; staged = None }) (replied invalid_data_field [], b) P (λ _. went low) (λ _. stays)

others_stay : (b : Board) (asked : Asked) → (answer b asked).1.others ≡ b.others
others_stay b GetLow = refl
others_stay b GetHigh = refl
others_stay b GetAll = refl
others_stay b (SetLow low) = low_keeps low b (λ r. r.1.others ≡ b.others) refl refl
others_stay b (SetHigh high) = high_keeps b.staged high b (λ r. r.1.others ≡ b.others) (λ low. refl) refl

free : (b : Board) (asked : Asked) → is_busy (answer b asked).0.code ≡ false
free b GetLow = refl
free b GetHigh = refl
free b GetAll = refl
free b (SetLow low) = low_keeps low b (λ r. is_busy r.0.code ≡ false) refl refl
free b (SetHigh high) = high_keeps b.staged high b (λ r. is_busy r.0.code ≡ false) (λ low. refl) refl

all_shown : (b after : Board) (asked : Asked) (a : Answered) → asked ≡ GetAll → Row b asked a after → a ≡ replied success (b.pair.low ∷ b.pair.high ∷ [])
all_shown b after asked a is row = row.0 ∙ ap (λ (x : Asked). (answer b x).0) is

all_agree : (b after c later : Board) (asked other : Asked) (a d : Answered) → asked ≡ GetAll → other ≡ GetAll → Row b asked a after → Row c other d later → d.code ≡ a.code
all_agree b after c later asked other a d is is_too row row_too = ap (λ (x : Answered). x.code) (all_shown c later other d is_too row_too) ∙ sym (ap (λ (x : Answered). x.code) (all_shown b after asked a is row))

all_same : (b after c later : Board) (asked other : Asked) (a d : Answered) → asked ≡ GetAll → other ≡ GetAll → c.pair ≡ b.pair → Row b asked a after → Row c other d later → d.body ≡ a.body
all_same b after c later asked other a d is is_too same row row_too =
    ap (λ (x : Answered). x.body) (all_shown c later other d is_too row_too) ∙ ap (λ (p : Pair). p.low ∷ p.high ∷ []) same ∙ sym (ap (λ (x : Answered). x.body) (all_shown b after asked a is row))

pub pairs_are_family : IsFamily pair_family
pairs_are_family = record {
  kinds = kinds;
  gets_steady = λ b after c later asked other key a d is is_too same valid row row_too carried carried_too. all_same b after c later asked other a d is is_too same row row_too;
  gets_agree = λ b after c later asked other key a d is is_too same row row_too. all_agree b after c later asked other a d is is_too row row_too;
  parts_keep = λ b after key asked a is row. gets_keep b after asked a is row;
  parts_show = λ r key bodies valid all. record { value = r; found = refl; shows = gets_show r bodies all };
  sets_go_on = sets_go_on;
  sets_do = sets_do;
  refusals_keep = λ b after op bodies a s ne. (refused_so b after op bodies a s ne).kept;
  refusals_say = λ b after op bodies a s ne r set. (refused_so b after op bodies a s ne).not_valid set.sets.1;
  stays_ready = λ b after asked a made ready row series. subst (λ (n : ℕ). n < 8) (sym (ap (λ (c : Board). c.others) row.1 ∙ others_stay b asked)) (ready series);
  never_busy = λ b after asked a row. ap (λ (x : Answered). is_busy x.code) row.0 ∙ free b asked;
}

-- no series has a third request
ends_at_two : (both : Both) (bodies : List (List ℕ)) → 2 ≤ length bodies → next both bodies ≡ None
ends_at_two both [] long = absurd (omega arith)
ends_at_two both (x ∷ []) long = absurd (omega arith)
ends_at_two GetBoth ([] ∷ y ∷ ys) long = refl
ends_at_two GetBoth ((byte ∷ rest) ∷ y ∷ ys) long = refl
ends_at_two (SetBoth pair) (x ∷ y ∷ ys) long = refl

pub pairs_are_finite : AreFinite pairs
pairs_are_finite series made = (2, ends_at_two series)

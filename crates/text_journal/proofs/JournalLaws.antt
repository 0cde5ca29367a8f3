-- The lines of a journal say one thing, so each text stands for one journal at most, or has one first bad line.
use Rattle.std.proofs.Common.{◌≡◌, ◌≢◌, ◌<◌, ◌+◌, ◌*◌, ◌^◌, ◌⊎◌, inl, inr, ℕ, suc, zero, List, [], ◌∷◌, ◌++◌, length, get_or, arith, refl, sym, ◌∙◌, ap, subst, append_assoc, Some, Bool, true, false, codes}
use Rattle.std.specs.List.{flat_map}
use Rattle.text_lines.specs.Cuts.{LacksByte, ended}
use Rattle.text_lines.proofs.Cuts.{same_cut}
use Rattle.record_base.specs.declared.op.Op.{Op}
use Rattle.record_base.specs.declared.message.Asked.{Asked}
use Rattle.record_base.specs.declared.message.Asked.TheVariants.{Ipmi, Pldm}
use Rattle.two_wire.specs.declared.Bus.{Bus}
use Rattle.two_wire.specs.declared.Bus.TheVariants.{Ipmb, Smbus}
use Rattle.bios_attr.specs.EntryParts.{with_body}
use Rattle.record_kinds.specs.Limits.{words as kinds, set_asked}
use Rattle.record_kinds.specs.Series.{set_whole}
use Rattle.undo_plans.specs.declared.names.Names.{Names}
use Rattle.undo_plans.specs.declared.kept_stage.Counts.{Counts}
use Rattle.undo_plans.specs.declared.kept_stage.KeptStage.{KeptStage}
use Rattle.undo_plans.specs.KeptManager.{Kept}
use Rattle.text_lines.specs.UndoText.{BeginsWith, bus_of, name_of}
use Rattle.text_journal.specs.declared.draft.Place.{Place}
use Rattle.text_journal.specs.declared.draft.Place.TheVariants as at
use Rattle.text_journal.specs.declared.step.RequestHead.{RequestHead}
use Rattle.text_journal.specs.JournalLines.{number_line, numbers_line, IsBytesLine, IsNamesLine, names_bytes, IsRequest, IsRequestLine, IsStepLine, bytes_of}
use Rattle.text_journal.specs.JournalSteps.{head_in, head_of, head_bytes}
use Rattle.text_journal.specs.JournalText.{Said, then, start, IsLine, Leads, Says, IsTextOf, IsFirstBad, told_line}
use Rattle.text_journal.proofs.Lines.{lacks_by_test, lacks_both, decimal_lacks, digits_lack, numbers_lack, same_behind, same_number, same_numbers, same_bytes}
use Rattle.text_journal.proofs.NamedSteps.{one_step}
use Rattle.text_journal.proofs.StageLines.{stage_lacks, one_stage}

-- ---- no line holds a line feed

number_lacks : (words : List ℕ) (n : ℕ) → LacksByte 10 words → n < 2 ^ 32 → LacksByte 10 (number_line words n)
number_lacks words n lacks low = lacks_both 10 words _ lacks (decimal_lacks 10 n low (omega arith))

bytes_lack : (words line bytes : List ℕ) → LacksByte 10 words → IsBytesLine words line bytes → LacksByte 10 line
bytes_lack words line bytes lacks is = subst (LacksByte 10) (sym is.spelt) (lacks_both 10 words is.digits lacks (digits_lack is.digits bytes is.read))

bus_lacks : (asked : Asked) → LacksByte 10 (bus_of asked)
bus_lacks (Ipmi from net_fn lun command body) = lacks_by_test 10 (codes "ipmb ") refl
bus_lacks (Pldm from kind command body) = lacks_by_test 10 (codes "smbus ") refl

pub told_lacks : (stopped : Bool) → LacksByte 10 (told_line stopped)
told_lacks true = lacks_by_test 10 (codes "stop") refl
told_lacks false = lacks_by_test 10 (codes "go") refl

line_lacks : (place : Place) (left : ℕ) (kept : Kept) (line : List ℕ) (next : Said) → IsLine place left kept line next → LacksByte 10 line
line_lacks at.Version left kept line next (e, to) = subst (LacksByte 10) (sym e) (lacks_by_test 10 (codes "journal 1") refl)
line_lacks at.Retries left kept line next (n, e, low, to) =
    subst (LacksByte 10) (sym e) (number_lacks (codes "retries ") n (lacks_by_test 10 (codes "retries ") refl) (omega (arith, low)))
line_lacks at.Names left kept line next (names, is, to) = bytes_lack (codes "names ") line (names_bytes names) (lacks_by_test 10 (codes "names ") refl) is.is
line_lacks at.Listed left kept line next (inl (e, to)) = subst (LacksByte 10) (sym e) (lacks_by_test 10 (codes "unlisted") refl)
line_lacks at.Listed left kept line next (inr (names, is, to)) = bytes_lack (codes "listed ") line (names_bytes names) (lacks_by_test 10 (codes "listed ") refl) is.is
line_lacks at.Count left kept line next (n, e, low, to) =
    subst (LacksByte 10) (sym e) (number_lacks (codes "steps ") n (lacks_by_test 10 (codes "steps ") refl) (omega (arith, low)))
line_lacks at.Step zero kept line next (n, e, low, to) =
    subst (LacksByte 10) (sym e) (number_lacks (codes "undo ") n (lacks_by_test 10 (codes "undo ") refl) (omega (arith, low)))
line_lacks at.Step (suc left) kept line next (op, is, to) = bytes_lack (bus_of (set_whole op)) line (bytes_of (set_whole op)) (bus_lacks (set_whole op)) is
line_lacks at.Request zero kept line next (n, e, low, few, to) =
    subst (LacksByte 10) (sym e) (number_lacks (codes "waiting ") n (lacks_by_test 10 (codes "waiting ") refl) (omega (arith, low)))
line_lacks at.Request (suc left) kept line next (asked, is, to) = bytes_lack (bus_of asked) line (bytes_of asked) (bus_lacks asked) is.is
line_lacks at.Waiting zero kept line next (stage, e, is, fits, to) = subst (LacksByte 10) (sym e) (stage_lacks stage is)
line_lacks at.Waiting (suc left) kept line next (asked, is, to) = bytes_lack (bus_of asked) line (bytes_of asked) (bus_lacks asked) is.is
line_lacks at.Told left kept line next (stopped, e, is, to) = subst (LacksByte 10) (sym e) (told_lacks stopped)
line_lacks at.Counts left kept line next (counts, e, low, small, few, to) =
    subst (LacksByte 10) (sym e) (lacks_both 10 (codes "counts ") _ (lacks_by_test 10 (codes "counts ") refl) (numbers_lack counts.ipmb counts.smbus (omega (arith, low)) (omega (arith, small))))
line_lacks at.Replies left kept line next (inl (e, to)) = subst (LacksByte 10) (sym e) (lacks_by_test 10 (codes "no replies") refl)
line_lacks at.Replies left kept line next (inr (shown, is, some, few, to)) = bytes_lack (codes "replies ") line shown (lacks_by_test 10 (codes "replies ") refl) is
line_lacks at.End left kept line next h = absurd h

pub leads_lack : (said : Said) (line : List ℕ) (next : Said) → Leads said line next → LacksByte 10 line
leads_lack said line next h = line_lacks said.place said.left said.kept line next h

-- ---- a line says one thing

number_is : (words line : List ℕ) (m n : ℕ) → m < 2 ^ 32 → n < 2 ^ 32 → line ≡ number_line words m → line ≡ number_line words n → m ≡ n
number_is words line m n low small e f = same_number m n low small (same_behind words _ _ (sym e ∙ f))

bytes_are : (words line a b : List ℕ) → IsBytesLine words line a → IsBytesLine words line b → a ≡ b
bytes_are words line a b p q = same_bytes p.digits q.digits a b (same_behind words p.digits q.digits (sym p.spelt ∙ q.spelt)) p.read q.read

same_names : (a b : Names) → a.own_address ≡ b.own_address → a.peer_address ≡ b.peer_address → a.own_wire ≡ b.own_wire → a.peer_wire ≡ b.peer_wire → a.own_eid ≡ b.own_eid → a.peer_eid ≡ b.peer_eid → a ≡ b
same_names a b p q r s t u = λ i. record { own_address = p i; peer_address = q i; own_wire = r i; peer_wire = s i; own_eid = t i; peer_eid = u i }

pub one_names : (a b : Names) → names_bytes a ≡ names_bytes b → a ≡ b
one_names a b e = same_names a b (cc e) (cc e) (cc e) (cc e) (cc e) (cc e)

names_are : (words line : List ℕ) (a b : Names) → IsNamesLine words line a → IsNamesLine words line b → a ≡ b
names_are words line a b p q = one_names a b (bytes_are words line (names_bytes a) (names_bytes b) p.is q.is)

-- two requests on one line go over one bus, and have the same bytes
pub one_spelling : (line : List ℕ) (a b : Asked) → IsBytesLine (bus_of a) line (bytes_of a) → IsBytesLine (bus_of b) line (bytes_of b) → (bus_of a ≡ bus_of b) × (bytes_of a ≡ bytes_of b)
one_spelling line (Ipmi f n l c d) (Ipmi f' n' l' c' d') p q = (refl, bytes_are (codes "ipmb ") line _ _ p q)
one_spelling line (Pldm f k c d) (Pldm f' k' c' d') p q = (refl, bytes_are (codes "smbus ") line _ _ p q)
one_spelling line (Ipmi f n l c d) (Pldm f' k' c' d') p q =
    let first : 105 ≡ 115 = ap (λ (x : List ℕ). get_or x 0 0) (sym p.spelt ∙ q.spelt) in
    absurd (omega (arith, first))
one_spelling line (Pldm f k c d) (Ipmi f' n' l' c' d') p q =
    let first : 115 ≡ 105 = ap (λ (x : List ℕ). get_or x 0 0) (sym p.spelt ∙ q.spelt) in
    absurd (omega (arith, first))

-- requests that go over one bus, with the same bytes, are the same
pub one_asked : (a b : Asked) → IsRequest a → IsRequest b → bus_of a ≡ bus_of b → bytes_of a ≡ bytes_of b → a ≡ b
one_asked (Ipmi f n l c d) (Ipmi f' n' l' c' d') p q bus e =
    let first : n * 4 + l ≡ n' * 4 + l' = cc e in
    let net : n ≡ n' = omega (arith, first, p.3, q.3) in
    let lun : l ≡ l' = omega (arith, first, p.3, q.3) in
    cc (net, lun, e, p.0, q.0)
one_asked (Pldm f k c d) (Pldm f' k' c' d') p q bus e = cc (e, p.0, q.0)
one_asked (Ipmi f n l c d) (Pldm f' k' c' d') p q bus e =
    let first : 105 ≡ 115 = ap (λ (x : List ℕ). get_or x 0 0) bus in
    absurd (omega (arith, first))
one_asked (Pldm f k c d) (Ipmi f' n' l' c' d') p q bus e =
    let first : 115 ≡ 105 = ap (λ (x : List ℕ). get_or x 0 0) bus in
    absurd (omega (arith, first))

request_is : (line : List ℕ) (a b : Asked) → IsRequestLine line a → IsRequestLine line b → a ≡ b
request_is line a b p q = let same = one_spelling line a b p.is q.is in one_asked a b p.request q.request same.0 same.1

-- the bytes of a request with other data
pub bytes_with : (asked : Asked) (body : List ℕ) → bytes_of (with_body asked body) ≡ head_bytes (head_in asked) body
bytes_with (Ipmi from net_fn lun command own) body = refl
bytes_with (Pldm from kind command own) body = refl

pub bus_with : (asked : Asked) (body : List ℕ) → bus_of (with_body asked body) ≡ name_of (head_in asked).bus
bus_with (Ipmi from net_fn lun command own) body = refl
bus_with (Pldm from kind command own) body = refl

pub one_bus : (a b : Bus) → name_of a ≡ name_of b → a ≡ b
one_bus Ipmb Ipmb e = refl
one_bus Smbus Smbus e = refl
one_bus Ipmb Smbus e = let first : 105 ≡ 115 = ap (λ (x : List ℕ). get_or x 0 0) e in absurd (omega (arith, first))
one_bus Smbus Ipmb e = let first : 115 ≡ 105 = ap (λ (x : List ℕ). get_or x 0 0) e in absurd (omega (arith, first))

pub one_head : (a b : RequestHead) → a.bus ≡ b.bus → a.first ≡ b.first → a.command ≡ b.command → a ≡ b
one_head a b p q r = λ i. record { bus = p i; first = q i; command = r i }

-- heads with data behind them
pub heads_are : (a b : RequestHead) (x y : List ℕ) → name_of a.bus ≡ name_of b.bus → head_bytes a x ≡ head_bytes b y → (a ≡ b) × (x ≡ y)
heads_are a b x y bus e = (one_head a b (one_bus a.bus b.bus bus) (cc e) (cc e), cc e)

step_is : (line : List ℕ) (a b : Op) → IsStepLine line a → IsStepLine line b → a ≡ b
step_is line a b p q =
    let same = one_spelling line (set_whole a) (set_whole b) p q in
    let bus = sym (bus_with (set_asked a) (kinds.set_data a)) ∙ same.0 ∙ bus_with (set_asked b) (kinds.set_data b) in
    let bytes = sym (bytes_with (set_asked a) (kinds.set_data a)) ∙ same.1 ∙ bytes_with (set_asked b) (kinds.set_data b) in
    let parts = heads_are (head_of a) (head_of b) (kinds.set_data a) (kinds.set_data b) bus bytes in
    one_step a b parts.0 parts.1

pub told_is : (a b : Bool) → told_line a ≡ told_line b → a ≡ b
told_is true true e = refl
told_is false false e = refl
told_is true false e = let first : 115 ≡ 103 = ap (λ (x : List ℕ). get_or x 0 0) e in absurd (omega (arith, first))
told_is false true e = let first : 103 ≡ 115 = ap (λ (x : List ℕ). get_or x 0 0) e in absurd (omega (arith, first))

counts_are : (line : List ℕ) (a b : Counts) → a.ipmb < 2 ^ 16 → a.smbus < 2 ^ 16 → b.ipmb < 2 ^ 16 → b.smbus < 2 ^ 16
    → line ≡ numbers_line (codes "counts ") a.ipmb a.smbus → line ≡ numbers_line (codes "counts ") b.ipmb b.smbus → a ≡ b
counts_are line a b p q r s e f =
    let same = same_numbers a.ipmb a.smbus b.ipmb b.smbus (omega (arith, p)) (omega (arith, q)) (omega (arith, r)) (omega (arith, s)) (same_behind (codes "counts ") _ _ (sym e ∙ f)) in
    λ i. record { ipmb = same.0 i; smbus = same.1 i }

-- both lines say it, so what was said is the same
join : {T : Type 0} (to : T → Said) (x y : T) (a b : Said) → x ≡ y → a ≡ to x → b ≡ to y → a ≡ b
join to x y a b same p q = p ∙ ap to same ∙ sym q

line_once : (place : Place) (left : ℕ) (kept : Kept) (line : List ℕ) (a b : Said) → IsLine place left kept line a → IsLine place left kept line b → a ≡ b
line_once at.Version left kept line a b (e, p) (f, q) = p ∙ sym q
line_once at.Retries left kept line a b (m, e, low, p) (n, f, small, q) =
    join (λ (k : ℕ). then at.Names 0 (record kept { retries = k })) m n a b (number_is (codes "retries ") line m n (omega (arith, low)) (omega (arith, small)) e f) p q
line_once at.Names left kept line a b (x, e, p) (y, f, q) = join (λ (k : Names). then at.Listed 0 (record kept { names = k })) x y a b (names_are (codes "names ") line x y e f) p q
line_once at.Listed left kept line a b (inl (e, p)) (inl (f, q)) = p ∙ sym q
line_once at.Listed left kept line a b (inr (x, e, p)) (inr (y, f, q)) =
    join (λ (k : Names). then at.Count 0 (record kept { listed = Some k })) x y a b (names_are (codes "listed ") line x y e f) p q
line_once at.Listed left kept line a b (inl (e, p)) (inr (y, f, q)) =
    let first : 117 ≡ 108 = ap (λ (x : List ℕ). get_or x 0 0) (sym e ∙ f.is.spelt) in
    absurd (omega (arith, first))
line_once at.Listed left kept line a b (inr (x, e, p)) (inl (f, q)) =
    let first : 108 ≡ 117 = ap (λ (x : List ℕ). get_or x 0 0) (sym e.is.spelt ∙ f) in
    absurd (omega (arith, first))
line_once at.Count left kept line a b (m, e, low, p) (n, f, small, q) =
    join (λ (k : ℕ). then at.Step k kept) m n a b (number_is (codes "steps ") line m n (omega (arith, low)) (omega (arith, small)) e f) p q
line_once at.Step zero kept line a b (m, e, low, p) (n, f, small, q) =
    join (λ (k : ℕ). then at.Request k kept) m n a b (number_is (codes "undo ") line m n (omega (arith, low)) (omega (arith, small)) e f) p q
line_once at.Step (suc left) kept line a b (x, e, p) (y, f, q) =
    join (λ (k : Op). then at.Step left (record kept { plan = kept.plan ++ k ∷ [] })) x y a b (step_is line x y e f) p q
line_once at.Request zero kept line a b (m, e, low, few, p) (n, f, small, also, q) =
    join (λ (k : ℕ). then at.Waiting k kept) m n a b (number_is (codes "waiting ") line m n (omega (arith, low)) (omega (arith, small)) e f) p q
line_once at.Request (suc left) kept line a b (x, e, p) (y, f, q) =
    join (λ (k : Asked). then at.Request left (record kept { members = kept.members ++ k ∷ [] })) x y a b (request_is line x y e f) p q
line_once at.Waiting zero kept line a b (x, e, is, fits, p) (y, f, also, fit, q) =
    join (λ (k : KeptStage). then at.Told 0 (record kept { stage = k })) x y a b (one_stage x y is also (sym e ∙ f)) p q
line_once at.Waiting (suc left) kept line a b (x, e, p) (y, f, q) =
    join (λ (k : Asked). then at.Waiting left (record kept { waiting = Some k })) x y a b (request_is line x y e f) p q
line_once at.Told left kept line a b (x, e, is, p) (y, f, also, q) = join (λ (k : Bool). then at.Counts 0 (record kept { stopped = k })) x y a b (told_is x y (sym e ∙ f)) p q
line_once at.Counts left kept line a b (x, e, l, s, few, p) (y, f, m, t, also, q) =
    join (λ (k : Counts). then at.Replies 0 (record kept { counts = k })) x y a b (counts_are line x y l s m t e f) p q
line_once at.Replies left kept line a b (inl (e, p)) (inl (f, q)) = p ∙ sym q
line_once at.Replies left kept line a b (inr (x, e, some, few, p)) (inr (y, f, any, also, q)) =
    join (λ (k : List ℕ). then at.End 0 (record kept { replies = k })) x y a b (bytes_are (codes "replies ") line x y e f) p q
line_once at.Replies left kept line a b (inl (e, p)) (inr (y, f, any, also, q)) =
    let first : 110 ≡ 114 = ap (λ (x : List ℕ). get_or x 0 0) (sym e ∙ f.spelt) in
    absurd (omega (arith, first))
line_once at.Replies left kept line a b (inr (x, e, some, few, p)) (inl (f, q)) =
    let first : 114 ≡ 110 = ap (λ (x : List ℕ). get_or x 0 0) (sym e.spelt ∙ f) in
    absurd (omega (arith, first))
line_once at.End left kept line a b h k = absurd h

pub leads_once : (said : Said) (line : List ℕ) (a b : Said) → Leads said line a → Leads said line b → a ≡ b
leads_once said line a b p q = line_once said.place said.left said.kept line a b p q

-- ---- lines and their line feeds

pub regroup : (line rest : List ℕ) → ended line ++ rest ≡ line ++ 10 ∷ rest
regroup line rest = append_assoc line (10 ∷ []) rest

never_empty : (line rest : List ℕ) → line ++ 10 ∷ rest ≡ [] → ⊥
never_empty [] rest e = cc e
never_empty (b ∷ line) rest e = cc e

-- lines at the front of a text, and what stands behind them
unrolled : (line : List ℕ) (lines : List (List ℕ)) (rest : List ℕ) → flat_map ended (line ∷ lines) ++ rest ≡ line ++ 10 ∷ (flat_map ended lines ++ rest)
unrolled line lines rest = append_assoc (ended line) (flat_map ended lines) rest ∙ regroup line (flat_map ended lines ++ rest)

-- ---- what lines say

-- a text is lines that say one thing, and ends where they do
said_once : (said : Said) (xs ys : List (List ℕ)) (a b : Kept) → Says said xs (then at.End 0 a) → Says said ys (then at.End 0 b) → flat_map ended xs ≡ flat_map ended ys → a ≡ b
said_once said [] [] a b p q e = ap (λ (s : Said). s.kept) (sym p ∙ q)
said_once said [] (y ∷ ys) a b p q e = absurd (never_empty y (flat_map ended ys) (sym (e ∙ regroup y (flat_map ended ys))))
said_once said (x ∷ xs) [] a b p q e = absurd (never_empty x (flat_map ended xs) (sym (regroup x (flat_map ended xs)) ∙ e))
said_once said (x ∷ xs) (y ∷ ys) a b (m, p, ps) (n, q, qs) e =
    let parts = same_cut 10 x (flat_map ended xs) y (flat_map ended ys) (sym (regroup x (flat_map ended xs)) ∙ e ∙ regroup y (flat_map ended ys)) (leads_lack said x m p) (leads_lack said y n q) in
    let next : m ≡ n = leads_once said y m n (subst (λ (l : List ℕ). Leads said l m) parts.0 p) q in
    said_once n xs ys a b (subst (λ (s : Said). Says s xs (then at.End 0 a)) next ps) qs parts.1

pub one_journal_of : (text : List ℕ) (a b : Kept) → IsTextOf text a → IsTextOf text b → a ≡ b
one_journal_of text a b p q = said_once start p.lines q.lines a b p.says q.says (sym p.spelt ∙ q.spelt)

-- lines that say a whole journal have no bad one
none_bad : (said : Said) (lines before : List (List ℕ)) (rest : List ℕ) (kept : Kept) (to : Said) → Says said lines (then at.End 0 kept) → Says said before to → flat_map ended lines ≡ flat_map ended before ++ rest
    → ((more : List ℕ) (next : Said) → ¬ BeginsWith (λ line. Leads to line next) rest more) → (rest ≢ []) ⊎ (to.place ≢ at.End) → ⊥
none_bad said [] [] rest kept to p q e bad (inl some) = some (sym e)
none_bad said [] [] rest kept to p q e bad (inr going) = going (ap (λ (s : Said). s.place) (sym q ∙ p))
none_bad said (l ∷ lines) [] rest kept to (m, h, ps) q e bad wanted =
    bad (flat_map ended lines) m (l, sym e ∙ regroup l (flat_map ended lines), subst (λ (s : Said). Leads s l m) q h)
none_bad said [] (b ∷ before) rest kept to p q e bad wanted = never_empty b (flat_map ended before ++ rest) (sym (e ∙ unrolled b before rest))
none_bad said (l ∷ lines) (b ∷ before) rest kept to (m, h, ps) (n, k, qs) e bad wanted =
    let parts = same_cut 10 l (flat_map ended lines) b (flat_map ended before ++ rest) (sym (regroup l (flat_map ended lines)) ∙ e ∙ unrolled b before rest) (leads_lack said l m h) (leads_lack said b n k) in
    let next : m ≡ n = leads_once said b m n (subst (λ (x : List ℕ). Leads said x m) parts.0 h) k in
    none_bad n lines before rest kept to (subst (λ (s : Said). Says s lines (then at.End 0 kept)) next ps) qs parts.1 bad wanted

pub apart : (text : List ℕ) (kept : Kept) (n : ℕ) → IsTextOf text kept → IsFirstBad text n → ⊥
apart text kept n s bad = none_bad start s.lines bad.before bad.rest kept bad.said s.says bad.says (sym s.spelt ∙ bad.spelt) bad.bad bad.wanted

-- two ways to a bad line are as long
bad_once : (said : Said) (before after : List (List ℕ)) (rest more : List ℕ) (a b : Said) → Says said before a → Says said after b → flat_map ended before ++ rest ≡ flat_map ended after ++ more
    → ((x : List ℕ) (next : Said) → ¬ BeginsWith (λ line. Leads a line next) rest x) → ((x : List ℕ) (next : Said) → ¬ BeginsWith (λ line. Leads b line next) more x) → length before ≡ length after
bad_once said [] [] rest more a b p q e bad worse = refl
bad_once said [] (y ∷ after) rest more a b p (n, q, qs) e bad worse =
    absurd (bad (flat_map ended after ++ more) n (y, e ∙ unrolled y after more, subst (λ (s : Said). Leads s y n) p q))
bad_once said (x ∷ before) [] rest more a b (m, p, ps) q e bad worse =
    absurd (worse (flat_map ended before ++ rest) m (x, sym e ∙ unrolled x before rest, subst (λ (s : Said). Leads s x m) q p))
bad_once said (x ∷ before) (y ∷ after) rest more a b (m, p, ps) (n, q, qs) e bad worse =
    let parts = same_cut 10 x (flat_map ended before ++ rest) y (flat_map ended after ++ more) (sym (unrolled x before rest) ∙ e ∙ unrolled y after more) (leads_lack said x m p) (leads_lack said y n q) in
    let next : m ≡ n = leads_once said y m n (subst (λ (l : List ℕ). Leads said l m) parts.0 p) q in
    ap suc (bad_once n before after rest more a b (subst (λ (s : Said). Says s before a) next ps) qs parts.1 bad worse)

pub one_first_bad : (text : List ℕ) (m n : ℕ) → IsFirstBad text m → IsFirstBad text n → m ≡ n
one_first_bad text m n p q =
    p.place ∙ ap (λ (k : ℕ). k + 1) (bad_once start p.before q.before p.rest q.rest p.said q.said p.says q.says (sym p.spelt ∙ q.spelt) p.bad q.bad) ∙ sym q.place

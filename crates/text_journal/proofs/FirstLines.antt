-- What a text's first line is read as, it is read as in every way.
use Rattle.std.proofs.Common.{◌≡◌, ◌≢◌, ◌<◌, ◌^◌, ◌↔◌, ◌==◌, inl, inr, ℕ, List, [], ◌∷◌, ◌++◌, length, get_or, arith, refl, sym, ◌∙◌, ap, subst, append_assoc, Option, Some, None, IfNone, Bool, true, false, codes, Result, Ok, Err, IfOk}
use Rattle.std.specs.Prelude.{MatchOption}
use denote.Ref.{Bor}
use Rattle.std.specs.Fmt.{decimal}
use Rattle.text_lines.specs.Cuts.{LacksByte}
use Rattle.text_lines.proofs.Cuts.{same_cut}
use Rattle.record_base.specs.declared.op.Op.{Op}
use Rattle.record_base.specs.declared.message.Asked.{Asked}
use Rattle.record_base.specs.declared.message.Asked.TheVariants.{Ipmi, Pldm}
use Rattle.two_wire.specs.declared.Bus.{Bus}
use Rattle.two_wire.specs.declared.Bus.TheVariants.{Ipmb, Smbus}
use Rattle.record_kinds.specs.Limits.{words as kinds}
use Rattle.undo_plans.specs.declared.names.Names.{Names}
use Rattle.undo_plans.specs.declared.kept_stage.KeptStage.{KeptStage}
use Rattle.text_lines.specs.UndoText.{BeginsWith, bus_of, name_of}
use Rattle.text_journal.specs.declared.request.SpeltRequest.{SpeltRequest}
use Rattle.text_journal.specs.declared.step.RequestHead.{RequestHead}
use Rattle.text_journal.specs.JournalLines.{number_line, numbers_line, IsBytesLine, IsNamesLine, bytes_of, stage_line, stage_step, stage_part, IsSpelt}
use Rattle.text_journal.specs.JournalSteps.{head_of, kind_of, step_of, step_named}
use Rattle.text_journal.specs.declared.stage.StageWord.{StageWord}
use Rattle.text_journal.specs.declared.step.StepKind.{StepKind}
use Rattle.text_journal.specs.StageWords.{word_of, spelt}
use Rattle.text_journal.specs.JournalText.{told_line, Lacks, AreListed, IsShown, AreReplies}
use Rattle.undo_plans.specs.declared.kept_stage.Counts.{Counts}
use Rattle.undo_plans.specs.KeptManager.{Kept}
use Rattle.std.specs.Option.{option_and_then}
use Rattle.std.proofs.lemmas.Bool.{eqb-true}
use Rattle.text_journal.proofs.Lines.{lacks_by_test, lacks_both, decimal_lacks, digits_lack, numbers_lack, same_behind, same_number, same_numbers, same_bytes}
use Rattle.text_journal.proofs.NamedSteps.{steps_are_named}
use Rattle.text_journal.proofs.StageLines.{stage_lacks, one_stage, one_word}

-- the first line of a text is one
first_once : (text line rest other more : List ℕ) → LacksByte 10 line → LacksByte 10 other → text ≡ line ++ 10 ∷ rest → text ≡ other ++ 10 ∷ more → line ≡ other
first_once text line rest other more l m e f = (same_cut 10 line rest other more (sym e ∙ f) l m).0

-- and so is what stands behind words on it
behind_once : (words a b text rest more : List ℕ) → LacksByte 10 a → LacksByte 10 b → text ≡ (words ++ a) ++ 10 ∷ rest → text ≡ (words ++ b) ++ 10 ∷ more → a ≡ b
behind_once words a b text rest more l m e f =
    (same_cut 10 a rest b more (same_behind words _ _ (sym (append_assoc words a (10 ∷ rest)) ∙ sym e ∙ f ∙ append_assoc words b (10 ∷ more))) l m).0

pub number_once : (words text rest more : List ℕ) (m n : ℕ) → m < 2 ^ 32 → n < 2 ^ 32
    → BeginsWith (λ line. line ≡ number_line words m) text rest → BeginsWith (λ line. line ≡ number_line words n) text more → m ≡ n
number_once words text rest more m n low small (l, e, p) (k, f, q) =
    same_number m n low small
    (behind_once words (decimal m) (decimal n) text rest more (decimal_lacks 10 m low (omega arith)) (decimal_lacks 10 n small (omega arith)) (e ∙ ap (λ (x : List ℕ). x ++ 10 ∷ rest) p) (f ∙ ap (λ (x : List ℕ). x ++ 10 ∷ more) q))

pub numbers_once : (words text rest more : List ℕ) (a b c d : ℕ) → a < 2 ^ 32 → b < 2 ^ 32 → c < 2 ^ 32 → d < 2 ^ 32
    → BeginsWith (λ line. line ≡ numbers_line words a b) text rest → BeginsWith (λ line. line ≡ numbers_line words c d) text more → (a ≡ c) × (b ≡ d)
numbers_once words text rest more a b c d i j k l (x, e, p) (y, f, q) =
    same_numbers a b c d i j k l
    (behind_once words (numbers_line [] a b) (numbers_line [] c d) text rest more (numbers_lack a b i j) (numbers_lack c d k l) (e ∙ ap (λ (z : List ℕ). z ++ 10 ∷ rest) p) (f ∙ ap (λ (z : List ℕ). z ++ 10 ∷ more) q))

pub bytes_once : (words text rest more a b : List ℕ) → BeginsWith (λ line. IsBytesLine words line a) text rest → BeginsWith (λ line. IsBytesLine words line b) text more → a ≡ b
bytes_once words text rest more a b (x, e, p) (y, f, q) =
    same_bytes p.digits q.digits a b
    (behind_once words p.digits q.digits text rest more (digits_lack p.digits a p.read) (digits_lack q.digits b q.read) (e ∙ ap (λ (z : List ℕ). z ++ 10 ∷ rest) p.spelt) (f ∙ ap (λ (z : List ℕ). z ++ 10 ∷ more) q.spelt))
    p.read q.read

pub stage_once : (text rest more : List ℕ) (s t : KeptStage) → IsSpelt s → IsSpelt t → BeginsWith (λ line. line ≡ stage_line s) text rest → BeginsWith (λ line. line ≡ stage_line t) text more → s ≡ t
stage_once text rest more s t is also (x, e, p) (y, f, q) =
    let same : x ≡ y = first_once text x rest y more (subst (LacksByte 10) (sym p) (stage_lacks s is)) (subst (LacksByte 10) (sym q) (stage_lacks t also)) e f in
    one_stage s t is also (sym p ∙ same ∙ q)

-- a text that begins with neither word is told nothing
pub none_told : (text : List ℕ) → ((more : List ℕ) → ¬ BeginsWith (λ line. line ≡ codes "stop") text more) → ((more : List ℕ) → ¬ BeginsWith (λ line. line ≡ told_line false) text more)
    → (more : List ℕ) (stopped : Bool) → ¬ BeginsWith (λ line. line ≡ told_line stopped) text more
none_told text stop go more true b = stop more b
none_told text stop go more false b = go more b

pub none_so : {A : Type 0} (r : Option A) (N M : Type 0) → IfNone r N → (N → M) → IfNone r M
none_so None N M n to = to n
none_so (Some a) N M n to = tt

pub ok_so : {A E : Type 0} (r : Result A E) (P Q : A → Type 0) → IfOk r P → ((a : A) → P a → Q a) → IfOk r Q
ok_so (Ok a) P Q p to = to a p
ok_so (Err e) P Q p to = tt

-- ---- requests

bus_named : (asked : Asked) → (bus : Bus) × (bus_of asked ≡ name_of bus)
bus_named (Ipmi from net_fn lun command body) = (Ipmb, refl)
bus_named (Pldm from kind command body) = (Smbus, refl)

-- a text that begins with no request's bytes begins with no request's line
pub none_spelt : (text more : List ℕ) (asked : Asked) → ((more bytes : List ℕ) (bus : Bus) → ¬ BeginsWith (λ line. IsBytesLine (name_of bus) line bytes) text more)
    → ¬ BeginsWith (λ line. IsBytesLine (bus_of asked) line (bytes_of asked)) text more
none_spelt text more asked none (line, e, is) =
    let bus = bus_named asked in
    none more (bytes_of asked) bus.0 (line, e, subst (λ (words : List ℕ). IsBytesLine words line (bytes_of asked)) bus.1 is)

names_lack : (bus : Bus) → LacksByte 10 (name_of bus)
names_lack Ipmb = lacks_by_test 10 (codes "ipmb ") refl
names_lack Smbus = lacks_by_test 10 (codes "smbus ") refl

-- two buses' names aren't the same line's
one_name : (line x y : List ℕ) (a b : Bus) → line ≡ name_of a ++ x → line ≡ name_of b ++ y → a ≡ b
one_name line x y Ipmb Ipmb e f = refl
one_name line x y Smbus Smbus e f = refl
one_name line x y Ipmb Smbus e f = let first : 105 ≡ 115 = ap (λ (l : List ℕ). get_or l 0 0) (sym e ∙ f) in absurd (omega (arith, first))
one_name line x y Smbus Ipmb e f = let first : 115 ≡ 105 = ap (λ (l : List ℕ). get_or l 0 0) (sym e ∙ f) in absurd (omega (arith, first))

-- bytes that a line spells of one bus are those of another request on it
pub spelt_once : (text rest more bytes : List ℕ) (bus : Bus) (asked : Asked) → BeginsWith (λ line. IsBytesLine (name_of bus) line bytes) text rest
    → BeginsWith (λ line. IsBytesLine (bus_of asked) line (bytes_of asked)) text more → (bus_of asked ≡ name_of bus) × (bytes_of asked ≡ bytes)
spelt_once text rest more bytes bus asked (x, e, p) (y, f, q) =
    let own = bus_named asked in
    let other : IsBytesLine (name_of own.0) y (bytes_of asked) = subst (λ (words : List ℕ). IsBytesLine words y (bytes_of asked)) own.1 q in
    let same : x ≡ y =
    first_once text x rest y more (subst (LacksByte 10) (sym p.spelt) (lacks_both 10 (name_of bus) _ (names_lack bus) (digits_lack p.digits bytes p.read)))
    (subst (LacksByte 10) (sym other.spelt) (lacks_both 10 (name_of own.0) _ (names_lack own.0) (digits_lack other.digits (bytes_of asked) other.read))) e f in
    let one : bus ≡ own.0 = one_name x p.digits other.digits bus own.0 p.spelt (same ∙ other.spelt) in
    let here : IsBytesLine (name_of bus) x (bytes_of asked) = subst (λ (l : List ℕ). IsBytesLine (name_of bus) l (bytes_of asked)) (sym same) (subst (λ (b : Bus). IsBytesLine (name_of b) y (bytes_of asked)) (sym one) other) in (
      own.1 ∙ ap name_of (sym one),
      same_bytes here.digits p.digits (bytes_of asked) bytes (same_behind (name_of bus) _ _ (sym here.spelt ∙ p.spelt)) here.read p.read,
    )

-- ---- steps

-- and one that they name is the only one
pub named_once : (head : RequestHead) (body : List ℕ) (made : Op) → step_named head body ≡ Some made → (op : Op) → head_of op ≡ head → kinds.set_data op ≡ body → op ≡ made
named_once head body made is op here there = same_some (sym (steps_are_named op) ∙ (λ i. step_named (here i) (there i)) ∙ is)
  where
    same_some : {a b : Op} → (let x : Option Op = Some a in x) ≡ Some b → a ≡ b
    same_some e = cc e

-- ---- requests on either bus

pub either_bus : {E : Type 0} (text : List ℕ) (r : Result (Option (SpeltRequest × Bor (List ℕ))) E) → ((more bytes : List ℕ) → ¬ BeginsWith (λ line. IsBytesLine (name_of Ipmb) line bytes) text more)
    → IfOk r (λ found. MatchOption found ((more bytes : List ℕ) → ¬ BeginsWith (λ line. IsBytesLine (name_of Smbus) line bytes) text more) (λ it. BeginsWith (λ line. IsBytesLine (name_of it.0.bus) line it.0.bytes.items) text it.1.now))
    → IfOk r (λ found. MatchOption found ((more bytes : List ℕ) (bus : Bus) → ¬ BeginsWith (λ line. IsBytesLine (name_of bus) line bytes) text more) (λ it. BeginsWith (λ line. IsBytesLine (name_of it.0.bus) line it.0.bytes.items) text it.1.now))
either_bus text (Err e) ipmb smbus = tt
either_bus text (Ok (Some it)) ipmb smbus = smbus
either_bus text (Ok None) ipmb smbus = both
  where
    both : (more bytes : List ℕ) (bus : Bus) → ¬ BeginsWith (λ line. IsBytesLine (name_of bus) line bytes) text more
    both more bytes Ipmb b = ipmb more bytes b
    both more bytes Smbus b = smbus more bytes b

-- ---- what is left where a test fails

pub refused : (r : Bool) (P : Type 0) → r ≡ false → ((r ≡ true) ↔ P) → ¬ P
refused r P off iff p = let both : true ≡ false = sym (iff.1 p) ∙ off in cc both

pub empty_is : (xs : List ℕ) (r : Bool) → r ≡ true → r ≡ (length xs == 0) → xs ≡ []
empty_is [] r on is = refl
empty_is (x ∷ xs) r on is = let none : length (x ∷ xs) ≡ 0 = eqb-true _ _ (sym is ∙ on) in absurd (omega (arith, none))

-- ---- names and replies

pub no_names_there : (words text : List ℕ) (found : Option (Names × Bor (List ℕ))) → found ≡ None
    → MatchOption found ((more : List ℕ) (names : Names) → ¬ BeginsWith (λ line. IsNamesLine words line names) text more) (λ it. BeginsWith (λ line. IsNamesLine words line it.0) text it.1.now)
    → (more : List ℕ) (names : Names) → ¬ BeginsWith (λ line. IsNamesLine words line names) text more
no_names_there words text None e m = m
no_names_there words text (Some it) e m = cc e

pub none_listed : (text : List ℕ) (kept : Kept) → ((more : List ℕ) → ¬ BeginsWith (λ line. line ≡ codes "unlisted") text more)
    → ((more : List ℕ) (names : Names) → ¬ BeginsWith (λ line. IsNamesLine (codes "listed ") line names) text more) → Lacks (AreListed kept) text
none_listed text kept none off more next (line, e, inl (p, to)) = none more (line, e, p)
none_listed text kept none off more next (line, e, inr (names, is, to)) = off more names (line, e, is)

pub none_shown : (text : List ℕ) (kept : Kept) → ((more : List ℕ) → ¬ BeginsWith (λ line. line ≡ codes "no replies") text more) → Lacks (IsShown kept) text → Lacks (AreReplies kept) text
none_shown text kept none off more next (line, e, inl (p, to)) = none more (line, e, p)
none_shown text kept none off more next (line, e, inr is) = off more next (line, e, is)

pub answered_so : {A : Type 0} (r : Option A) (N M : Type 0) (P Q : A → Type 0) → MatchOption r N P → (N → M) → ((a : A) → P a → Q a) → MatchOption r M Q
answered_so None N M P Q m n p = n m
answered_so (Some a) N M P Q m n p = p a m

-- ---- stages

pub word_once : (text rest more : List ℕ) (w : StageWord) (s : KeptStage) → text ≡ spelt w ++ rest → BeginsWith (λ line. line ≡ stage_line s) text more → word_of s ≡ w
word_once text rest more w s e (line, f, p) =
    one_word (word_of s) w text _ rest (f ∙ ap (λ (l : List ℕ). l ++ 10 ∷ more) p ∙ append_assoc (spelt (word_of s)) (numbers_line [] (stage_step s) (stage_part s)) (10 ∷ more)) e

pub numbers_of : (text more words : List ℕ) (w : StageWord) (s : KeptStage) → words ≡ spelt w → word_of s ≡ w → BeginsWith (λ line. line ≡ stage_line s) text more
    → BeginsWith (λ line. line ≡ numbers_line words (stage_step s) (stage_part s)) text more
numbers_of text more words w s is same (line, e, p) = (line, e, p ∙ ap (λ (l : List ℕ). numbers_line l (stage_step s) (stage_part s)) (ap spelt same ∙ sym is))

pub named_step : (head : RequestHead) (body : List ℕ) (kind : StepKind) (made : Option Op) → kind_of head ≡ Some kind → step_of kind body ≡ made → step_named head body ≡ made
named_step head body kind made is step = ap (λ (k : Option StepKind). option_and_then (λ one. step_of one body) k) is ∙ step

pub filled : (xs : List ℕ) (r : Bool) → r ≡ false → r ≡ (length xs == 0) → xs ≢ []
filled xs r off is e = let both : true ≡ false = sym (is ∙ ap (λ (l : List ℕ). length l == 0) e) ∙ off in cc both

pub counts_once : (text rest more : List ℕ) (a b : Counts) → a.ipmb < 2 ^ 16 → a.smbus < 2 ^ 16 → b.ipmb < 2 ^ 16 → b.smbus < 2 ^ 16
    → BeginsWith (λ line. line ≡ numbers_line (codes "counts ") a.ipmb a.smbus) text rest → BeginsWith (λ line. line ≡ numbers_line (codes "counts ") b.ipmb b.smbus) text more → a ≡ b
counts_once text rest more a b p q r s x y =
    let same = numbers_once (codes "counts ") text rest more a.ipmb a.smbus b.ipmb b.smbus (omega (arith, p)) (omega (arith, q)) (omega (arith, r)) (omega (arith, s)) x y in
    λ i. record { ipmb = same.0 i; smbus = same.1 i }

-- Reading on: lines at the front of a text, and what they say.
use Rattle.std.proofs.Common.{◌≡◌, ◌≢◌, ◌<◌, ◌≤◌, ◌+◌, ◌⊎◌, inl, inr, ℕ, suc, zero, List, [], ◌∷◌, ◌++◌, length, arith, refl, sym, ◌∙◌, ap, subst, append_assoc}
use Rattle.std.specs.List.{flat_map}
use Rattle.std.proofs.lemmas.List.{length-append}
use Rattle.std.proofs.lemmas.Grind.{flat_map-append}
use Rattle.text_lines.specs.Cuts.{ended}
use Rattle.record_base.specs.declared.op.Op.{Op}
use Rattle.record_base.specs.declared.message.Asked.{Asked}
use Rattle.undo_plans.specs.declared.kept_stage.KeptStage.TheVariants as stage
use Rattle.undo_plans.specs.KeptManager.{Kept}
use Rattle.text_journal.specs.declared.draft.Place.{Place}
use Rattle.text_journal.specs.declared.draft.Place.TheVariants as at
use Rattle.text_journal.specs.JournalText.{Said, start, IsLine, Leads, Says, IsFirstBad, IsOpenAt, IsOpen, Takes, Lacks}
use Rattle.text_journal.proofs.JournalLaws.{regroup}

-- ---- lines behind lines

says_more : (said : Said) (lines : List (List ℕ)) (last : Said) (line : List ℕ) (next : Said) → Says said lines last → Leads last line next → Says said (lines ++ line ∷ []) next
says_more said [] last line next p h = (next, subst (λ (s : Said). Leads s line next) (sym p) h, refl)
says_more said (l ∷ lines) last line next (m, k, rest) h = (m, k, says_more m lines last line next rest h)

-- the text begins with lines that say this, and the rest stands behind them, the first of its lines with this number
pub record Begun (text rest : List ℕ) (line : ℕ) (said : Said) : Type 0 where
  pub before : List (List ℕ)
  pub spelt : text ≡ flat_map ended before ++ rest
  pub says : Says start before said
  pub place : line ≡ length before + 1

nil_behind : (xs : List ℕ) → xs ++ [] ≡ xs
nil_behind [] = refl
nil_behind (x ∷ xs) = ap (λ (l : List ℕ). x ∷ l) (nil_behind xs)

pub begun_none : (text : List ℕ) (said : Said) → said ≡ start → Begun text text 1 said
begun_none text said e = record { before = []; spelt = refl; says = sym e; place = refl }

pub begun_more : (text rest more : List ℕ) (line : ℕ) (said next : Said) → Begun text rest line said → Takes (Leads said) rest more next → Begun text more (line + 1) next
begun_more text rest more line said next b (l, e, h) =
    let split = flat_map-append ended b.before (l ∷ []) in
    let last : flat_map ended (l ∷ []) ≡ ended l = nil_behind (ended l) in
    let front : flat_map ended (b.before ++ l ∷ []) ++ more ≡ flat_map ended b.before ++ (l ++ 10 ∷ more) =
    ap (λ (x : List ℕ). x ++ more) (split ∙ ap (λ (x : List ℕ). flat_map ended b.before ++ x) last) ∙ append_assoc (flat_map ended b.before) (ended l) more ∙ ap (λ (x : List ℕ). flat_map ended b.before ++ x) (regroup l more) in
    record {
      before = b.before ++ l ∷ [];
      spelt = b.spelt ∙ ap (λ (x : List ℕ). flat_map ended b.before ++ x) e ∙ sym front;
      says = says_more start b.before said l next b.says h;
      place = omega (arith, b.place, length-append b.before (l ∷ []));
    }

pub begun_bad : (text rest : List ℕ) (line : ℕ) (said : Said) → Begun text rest line said → Lacks (Leads said) rest → (rest ≢ []) ⊎ (said.place ≢ at.End) → IsFirstBad text line
begun_bad text rest line said b bad wanted = record { before = b.before; rest = rest; said = said; spelt = b.spelt; says = b.says; place = b.place; bad = bad; wanted = wanted }

-- nothing begins with a line
empty_begins : (said next : Said) (more : List ℕ) → ¬ Takes (Leads said) [] more next
empty_begins said next more ([], e, h) = cc e
empty_begins said next more (b ∷ line, e, h) = cc e

pub begun_short : (text rest : List ℕ) (line : ℕ) (said : Said) → Begun text rest line said → rest ≡ [] → said.place ≢ at.End → IsFirstBad text line
begun_short text rest line said b none going =
    begun_bad text rest line said b (subst (λ (r : List ℕ). Lacks (Leads said) r) (sym none) (λ more next. empty_begins said next more)) (inr going)

-- ---- what was said leaves room for what comes

longer : (plan : List Op) (op : Op) (left : ℕ) → suc left + length plan ≤ 256 → left + length (plan ++ op ∷ []) ≤ 256
longer plan op left few = omega (arith, few, length-append plan (op ∷ []))

more_members : (members : List Asked) (asked : Asked) (left : ℕ) → suc left + length members ≤ 256 → left + length (members ++ asked ∷ []) ≤ 256
more_members members asked left few = omega (arith, few, length-append members (asked ∷ []))

none_yet : {T : Type 0} (xs : List T) (n : ℕ) → xs ≡ [] → n ≤ 256 → n + length xs ≤ 256
none_yet xs n none few = omega (arith, few, ap (λ l. length l) none)

open_at : (place : Place) (left : ℕ) (kept : Kept) (line : List ℕ) (next : Said) → IsOpenAt place left kept → IsLine place left kept line next → IsOpen next
open_at at.Version left kept line next going (e, to) = subst IsOpen (sym to) going
open_at at.Retries left kept line next going (n, e, low, to) = subst IsOpen (sym to) going
open_at at.Names left kept line next going (names, is, to) = subst IsOpen (sym to) going
open_at at.Listed left kept line next going (inl (e, to)) = subst IsOpen (sym to) going
open_at at.Listed left kept line next going (inr (names, is, to)) = subst IsOpen (sym to) going
open_at at.Count left kept line next going (n, e, few, to) = subst IsOpen (sym to) (none_yet kept.plan n going.0 few, going.1, going.2)
open_at at.Step zero kept line next going (n, e, few, to) = subst IsOpen (sym to) (none_yet kept.members n going.1 few, going.2)
open_at at.Step (suc left) kept line next going (op, is, to) = subst IsOpen (sym to) (longer kept.plan op left going.0, going.1, going.2)
open_at at.Request zero kept line next going (n, e, one, few, to) = subst IsOpen (sym to) few
open_at at.Request (suc left) kept line next going (asked, is, to) = subst IsOpen (sym to) (more_members kept.members asked left going.0, going.1)
open_at at.Waiting zero kept line next going (stage, e, is, fits, to) = subst IsOpen (sym to) (record { stands = fits.stands; alone = fits.alone })
open_at at.Waiting (suc left) kept line next going (asked, is, to) = subst IsOpen (sym to) (omega (arith, going))
open_at at.Told left kept line next going (stopped, e, is, to) = subst IsOpen (sym to) (record { stands = going.stands; alone = going.alone }, is)
open_at at.Counts left kept line next going (counts, e, low, small, few, to) = subst IsOpen (sym to) (record { stands = going.0.stands; alone = going.0.alone }, going.1, few)
open_at at.Replies left kept line next going (inl (e, to)) = subst IsOpen (sym to) (record { stands = going.0.stands; alone = going.0.alone }, going.1, going.2, omega arith, refl)
open_at at.Replies left kept line next going (inr (shown, is, some, few, to)) =
    subst IsOpen (sym to) (record { stands = going.0.stands; alone = going.0.alone }, going.1, going.2, few, refl)
open_at at.End left kept line next going h = absurd h

pub open_on : (said next : Said) (rest more : List ℕ) → IsOpen said → Takes (Leads said) rest more next → IsOpen next
open_on said next rest more going (line, e, h) = open_at said.place said.left said.kept line next going h

pub open_start : (said : Said) → said ≡ start → IsOpen said
open_start said e = subst IsOpen (sym e) (refl, refl, refl)

-- what is behind a line is shorter than the text
pub shorter : (rest more : List ℕ) (said next : Said) → Takes (Leads said) rest more next → length more < length rest
shorter rest more said next (line, e, h) = omega (arith, ap (λ (xs : List ℕ). length xs) e, length-append line (10 ∷ more))

-- ---- lists with more room

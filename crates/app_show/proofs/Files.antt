-- Files that get plans, one behind another.
use Rattle.std.specs.Prelude.{get_or, Ok}
use Rattle.std.proofs.Common.{◌≡◌, ◌∙◌, ◌+◌, ◌<◌, ◌++◌, ℕ, suc, true, String, string_bytes, List, [], ◌∷◌, length, take, refl, sym, ap, append_assoc, subst, arith, length-append}
use Rattle.std.proofs.lemmas.List.{append-nil, take_more}
use Rattle.std.specs.declared.alloc.Global.{Global}
use Rattle.record_base.specs.declared.op.Op.{Op}
use Rattle.shown_records.specs.KeptText.{IsPlanText}
use Rattle.app_journal.specs.declared.files.WritesFiles.{Ghosts}
use Rattle.app_journal.specs.declared.undo_files.UndoFiles.{UndoFiles}
use Rattle.app_journal.specs.Beside.{IsOwn, PutsPart}
use Rattle.app_journal.specs.Claiming.{IsFreeAt, Places}
use Rattle.app_show.specs.Plans.{ArePlans, all_of}
use Rattle.app_show.specs.Putting.{AreFilesFrom, AreFree, PutsAll, file_name}

-- one text more
pub plans_more : (texts : List (String Global)) (plans : List (List Op)) (text : String Global) (steps : List Op) → ArePlans texts plans → IsPlanText (string_bytes text) steps
    → ArePlans (texts ++ text ∷ []) (plans ++ steps ∷ [])
plans_more [] [] text steps are is = (is, tt)
plans_more (other ∷ texts) (first ∷ plans) text steps (one, rest) is = (one, plans_more texts plans text steps rest is)
plans_more [] (first ∷ plans) text steps are is = absurd are
plans_more (other ∷ texts) [] text steps are is = absurd are

-- the text of the plan at a place, behind those of the plans before it
pub plans_to : (texts all : List (String Global)) (plans : List (List Op)) (place : ℕ) (text : String Global) (steps : List Op) → place < length plans → steps ≡ get_or plans place steps
    → ArePlans texts (take place plans) → IsPlanText (string_bytes text) steps → all ≡ texts ++ text ∷ [] → ArePlans all (take (place + 1) plans)
plans_to texts all plans place text steps less at are is grows =
    let more : take (place + 1) plans ≡ take place plans ++ steps ∷ [] = take_more plans place steps less ∙ ap (λ (s : List Op). take place plans ++ s ∷ []) (sym at) in
    subst (λ (ps : List (List Op)). ArePlans all ps) (sym more)
    (subst (λ (ts : List (String Global)). ArePlans ts (take place plans ++ steps ∷ [])) (sym grows) (plans_more texts (take place plans) text steps are is))

-- one file more
pub files_more : (stem : List ℕ) (count behind number : ℕ) (files : List UndoFiles) (file : UndoFiles) → AreFilesFrom stem count behind files → number ≡ suc (behind + length files)
    → IsOwn (file_name stem number count) file → AreFilesFrom stem count behind (files ++ file ∷ [])
files_more stem count behind number [] file are is own =
    let same : number ≡ suc behind = grind (arith, is) in
    (subst (λ (n : ℕ). IsOwn (file_name stem n count) file) same own, tt)
files_more stem count behind number (other ∷ files) file (one, rest) is own =
    let same : number ≡ suc (suc behind + length files) = grind (arith, is) in
    (one, files_more stem count (suc behind) number files file rest same own)

pub longer_by_one : (old all : List UndoFiles) (file : UndoFiles) (place : ℕ) → all ≡ old ++ file ∷ [] → length old ≡ place → length all ≡ place + 1
longer_by_one old all file place is many =
    let longer : length (old ++ file ∷ []) ≡ length old + 1 = grind (arith, length-append) in
    subst (λ (l : List UndoFiles). length l ≡ place + 1) (sym is) (longer ∙ ap (λ (n : ℕ). n + 1) many)

-- one file more is free
free_more : (leads : Places) (files : List UndoFiles) (file : UndoFiles) → AreFree leads files → IsFreeAt leads (string_bytes file.part) true → AreFree leads (files ++ file ∷ [])
free_more leads [] file are is = (is, tt)
free_more leads (other ∷ files) file (one, rest) is = (one, free_more leads files file rest is)

pub free_to : (leads : Places) (all : List UndoFiles) (place : ℕ) (file : UndoFiles) → place < length all → file ≡ get_or all place file → AreFree leads (take place all)
    → IsFreeAt leads (string_bytes file.part) true → AreFree leads (take (place + 1) all)
free_to leads all place file less at are is =
    let more : take (place + 1) all ≡ take place all ++ file ∷ [] = take_more all place file less ∙ ap (λ (f : UndoFiles). take place all ++ f ∷ []) (sym at) in
    subst (AreFree leads) (sym more) (free_more leads (take place all) file are is)

module _ {Files : Type 0} (of : Ghosts Files) where
  -- one file more is put
  puts_more : (all : List UndoFiles) (texts : List (String Global)) (file : UndoFiles) (text : String Global) (old mid new : Files) → PutsAll of all texts old mid
      → PutsPart of.takes of.renames file (string_bytes text) mid (Ok tt) new → PutsAll of (all ++ file ∷ []) (texts ++ text ∷ []) old new
  puts_more [] [] file text old mid new same put =
      (new, subst (λ (f : Files). PutsPart of.takes of.renames file (string_bytes text) f (Ok tt) new) same put, refl)
  puts_more (first ∷ all) (one ∷ texts) file text old mid new (next, puts, rest) put = (next, puts, puts_more all texts file text next mid new rest put)
  puts_more [] (one ∷ texts) file text old mid new none put = absurd none
  puts_more (first ∷ all) [] file text old mid new none put = absurd none

  pub puts_to : (all : List UndoFiles) (texts : List (String Global)) (place : ℕ) (file : UndoFiles) (text : String Global) (old mid new : Files) → place < length all → place < length texts
      → file ≡ get_or all place file → text ≡ get_or texts place text → PutsAll of (take place all) (take place texts) old mid
      → PutsPart of.takes of.renames file (string_bytes text) mid (Ok tt) new → PutsAll of (take (place + 1) all) (take (place + 1) texts) old new
  puts_to all texts place file text old mid new less fewer at its before put =
      let more : take (place + 1) all ≡ take place all ++ file ∷ [] = take_more all place file less ∙ ap (λ (f : UndoFiles). take place all ++ f ∷ []) (sym at) in
      let other : take (place + 1) texts ≡ take place texts ++ text ∷ [] = take_more texts place text fewer ∙ ap (λ (t : String Global). take place texts ++ t ∷ []) (sym its) in
      subst (λ (fs : List UndoFiles). PutsAll of fs (take (place + 1) texts) old new) (sym more)
      (subst (λ (ts : List (String Global)). PutsAll of (take place all ++ file ∷ []) ts old new) (sym other)
      (puts_more (take place all) (take place texts) file text old mid new before put))

-- one text more
pub all_more : (texts : List (String Global)) (text : String Global) → all_of (texts ++ text ∷ []) ≡ all_of texts ++ string_bytes text
all_more [] text = append-nil (string_bytes text)
all_more (first ∷ texts) text =
    ap (λ (later : List ℕ). string_bytes first ++ later) (all_more texts text) ∙ sym (append_assoc (string_bytes first) (all_of texts) (string_bytes text))

pub all_to : (texts : List (String Global)) (place : ℕ) (text : String Global) (all : List ℕ) → place < length texts → text ≡ get_or texts place text → all ≡ all_of (take place texts)
    → all ++ string_bytes text ≡ all_of (take (place + 1) texts)
all_to texts place text all less at is =
    let more : take (place + 1) texts ≡ take place texts ++ text ∷ [] = take_more texts place text less ∙ ap (λ (t : String Global). take place texts ++ t ∷ []) (sym at) in
    ap (λ (l : List ℕ). l ++ string_bytes text) is ∙ sym (all_more (take place texts) text) ∙ sym (ap all_of more)

-- What is kept at looks.
use Rattle.std.proofs.Common.{◌≡◌, ◌∙◌, ℕ, List, [], ◌∷◌, Bool, ap, subst}
use Rattle.undo_core.specs.declared.manager.Manager.{Manager}
use Rattle.bmc_ports.specs.Observing.{SeesAll, Look}
use Rattle.app_journal.specs.declared.undo_files.UndoFiles.{UndoFiles}
use Rattle.app_journal.specs.Beside.{Writings, Renamings}
use Rattle.app_journal.specs.Keeping.{KeepsJournal, KeepsLooks}

-- what looks at it keeps its journal so: it has words, a text and files
pub record SeesSo {Watch Files : Type 0} (takes : Writings Files) (renames : Renamings Files) (beside : Watch → UndoFiles) (text : Watch → List ℕ) (files : Watch → Files)
    (old : Watch) (m : Manager) (allowed : Bool) (new : Watch) : Type 0 where
  pub keeps : KeepsJournal takes renames (beside old) m allowed (text old) (text new) (files old) (files new)
  pub same : beside new ≡ beside old

module _ {Watch Files : Type 0} (takes : Writings Files) (renames : Renamings Files) (beside : Watch → UndoFiles) (text : Watch → List ℕ) (files : Watch → Files)
    (sees : Watch → Manager → Bool → Watch → Type 0)
    (so : (old : Watch) (m : Manager) (allowed : Bool) (new : Watch) → sees old m allowed new → SeesSo takes renames beside text files old m allowed new) where
  -- the journal is kept at all looks
  pub keeps_looks : (looks : List Look) (old new : Watch) → SeesAll sees looks old new
      → KeepsLooks takes renames (beside old) looks (text old) (text new) (files old) (files new)
  keeps_looks [] old new same = (ap text same, ap files same)
  keeps_looks (look ∷ later) old new (mid, seen, rest) =
      let it = so old look.manager look.allowed mid seen in (
        text mid,
        files mid,
        it.keeps,
        subst (λ (b : UndoFiles). KeepsLooks takes renames b later (text mid) (text new) (files mid) (files new)) it.same (keeps_looks later mid new rest),
      )

-- what no look changes is the same behind all of them
pub stays_same : {Watch Name : Type 0} (sees : Watch → Manager → Bool → Watch → Type 0) (name : Watch → Name)
    (each : (old : Watch) (m : Manager) (allowed : Bool) (new : Watch) → sees old m allowed new → name new ≡ name old)
    (looks : List Look) (old new : Watch) → SeesAll sees looks old new → name new ≡ name old
stays_same sees name each [] old new same = ap name same
stays_same sees name each (look ∷ later) old new (mid, seen, rest) = stays_same sees name each later mid new rest ∙ each old look.manager look.allowed mid seen

-- What comes of taking back.
use Rattle.std.specs.Prelude.{IfOk, OnErr, Result}
use Rattle.std.proofs.Common.{◌≡◌, ◌∙◌, ◌+◌, ◌++◌, ◌⊎◌, ◌<◌, ◌≤◌, ℕ, suc, List, [], ◌∷◌, Option, Some, None, Ok, Err, ap, arith, inl, inr, length, subst, sym, take}
use Rattle.std.specs.List.{slice_get}
use Rattle.std.specs.Option.{option_to_list}
use Rattle.std.proofs.lemmas.List.{take_all, take_more}
use Rattle.std.proofs.lemmas.Option.{get_or_from_slice_get, slice_get_within}
use Rattle.record_base.specs.declared.message.Asked.{Asked}
use Rattle.undo_core.specs.declared.manager.Manager.{Manager}
use Rattle.app_journal.specs.declared.files.WriteFault.{WriteFault}
use Rattle.app_journal.specs.declared.files.WritesFiles as written
use Rattle.app_journal.specs.declared.standing.Standing.{Standing}
use Rattle.app_journal.specs.declared.undo_files.UndoFiles.{UndoFiles}
use Rattle.app_journal.specs.Beside.{GivesUndo}
use Rattle.text_lines.specs.UndoText.{text_of}
use Rattle.undo_plans.specs.declared.undo_list.UndoList.{UndoList}
use Rattle.app_apply.specs.declared.outcome.Outcome.{Outcome}
use Rattle.app_revert.specs.declared.reverting.Reverted.{Reverted}
use Rattle.app_revert.specs.Looks.{doubts}
use Rattle.app_revert.specs.Revert.{IsEmptied, IsReverted, LeavesUndone, Looks, PutsDone, RevertCome, RevertEnd}

-- one more is taken
pub taken_more : (requests : List Asked) (n : ℕ) (one : Asked) (so_far : List Asked) → slice_get requests n ≡ Some one → so_far ≡ take n requests
    → so_far ++ one ∷ [] ≡ take (n + 1) requests
taken_more requests n one so_far at same =
    let below = slice_get_within requests n one at in
    rw (same, take_more requests n one below, get_or_from_slice_get requests n one one at)

-- the first so many of a list are those of another number, where both are the same or take all
pub taken_alike : (requests : List Asked) (count place : ℕ) → ((count ≡ suc place) × (place < length requests)) ⊎ ((count ≡ length requests) × (length requests ≤ place))
    → take count requests ≡ take (suc place) requests
taken_alike requests count place (inl (same, within)) = ap (λ (n : ℕ). take n requests) same
taken_alike requests count place (inr (all, past)) = take_all count requests (omega (arith, all)) ∙ sym (take_all (suc place) requests (omega (arith, past)))

-- one request at most is in doubt
pub one_doubt : (waiting : Option Asked) → length (option_to_list waiting) ≤ 1
one_doubt None = omega arith
one_doubt (Some request) = omega arith

-- ---- all was taken back

module _ {Files Refused : Type 0} (files : written.Ghosts Files) (beside : UndoFiles) where
  -- FILE gets the empty list, or memory for that is refused
  pub undone_by : (list empty : UndoList) (came : Result (Result (Unit {0}) WriteFault) Refused) (old mid new : Files) → IsEmptied list empty
      → PutsDone files beside {Refused = Refused} (text_of list) (Ok (Ok tt)) old mid → IfOk came (λ answer. GivesUndo files beside (text_of empty) mid answer new)
      → OnErr came (new ≡ mid) → LeavesUndone files beside list came old new
  undone_by list empty (Ok answer) old mid new emptied puts gives same = inl (empty, mid, emptied, puts, gives)
  undone_by list empty (Err refused) old mid new emptied puts gives same =
      inr (subst (λ (at : Files). PutsDone files beside {Refused = Refused} (text_of list) (Ok (Ok tt)) old at) (sym same) puts)

  -- ---- the whole way

  -- the looks behind it told something, and names were read; or memory for the looks was refused
  pub come_by : (agains : ℕ) (standing : Standing) (before after : Manager) (outcome : Outcome) (came : Result Reverted Refused) (old new : Files)
      → RevertEnd files beside {Refused = Refused} agains standing before after (Ok outcome) old new → IfOk came (IsReverted agains after (doubts before) outcome)
      → RevertCome files beside agains standing before came old new
  come_by agains standing before after outcome (Ok reverted) old new ends is = (
    subst (λ (m : Manager). RevertEnd files beside {Refused = Refused} agains standing before m (Ok reverted.outcome) old new) (sym is.0)
        (subst (λ (o : Outcome). RevertEnd files beside {Refused = Refused} agains standing before after (Ok o) old new) (sym is.1) ends),
    subst (λ (m : Manager). Looks agains m (doubts before) reverted.outcome reverted.looked reverted.names) (sym is.0)
        (subst (λ (o : Outcome). Looks agains after (doubts before) o reverted.looked reverted.names) (sym is.1) is.2),
  )
  come_by agains standing before after outcome (Err refused) old new ends is = inr (after, Ok outcome, ends)

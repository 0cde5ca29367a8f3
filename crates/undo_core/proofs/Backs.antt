-- Requests that undo, the last first.
use Rattle.std.proofs.Common.{◌≡◌, ℕ, suc, ◌+◌, ◌-◌, ◌<◌, ◌≤◌, true, subst, arith, List, [], ◌∷◌, ◌++◌, length, map, take, Option, Some, None, refl, sym, ◌∙◌, ap}
use Rattle.std.specs.Prelude.{slice_get, get_or}
use Rattle.std.specs.Option.{option_to_list}
use Rattle.std.proofs.Math.Seq.{take-suc}
use Rattle.std.proofs.lemmas.List.{length-append, reverse-append}
use Rattle.std.proofs.lemmas.Option.{slice_get_within, slice_get-get_or, same_Some}
use Rattle.record_base.specs.declared.message.Asked.{Asked}
use Rattle.bios_attr.specs.EntryParts.{first_request}
use Rattle.record_kinds.specs.Series.{Series, Sends}
use Rattle.undo_plans.specs.declared.names.Names.{Names}
use Rattle.undo_plans.specs.Requests.{RequestList}
use Rattle.record_base.specs.declared.op.Op.{Op}
use Rattle.model_undo.specs.Machine as machine
use Rattle.undo_core.specs.declared.stage.Stage.TheVariants.{Opened}
use Rattle.undo_core.specs.declared.stage.Task.TheVariants.{Undoes}
use Rattle.undo_core.specs.Shown.{words_of, own, backs, IsStage}

-- one request more comes first
pub backs_push : (requests : List Asked) (request : Asked) → backs (requests ++ request ∷ []) ≡ Sends request ∷ backs requests
backs_push requests request = ap (map Sends) (reverse-append requests (request ∷ []))

-- one request more at most is kept
pub one_kept : (requests others : List Asked) (waiting : Option Asked) → others ≡ requests ++ option_to_list waiting → length others ≤ length requests + 1
one_kept requests others None is = omega (arith, ap (λ (l : List Asked). length l) is, length-append requests [])
one_kept requests others (Some request) is = omega (arith, ap (λ (l : List Asked). length l) is, length-append requests (request ∷ []))

-- so does the next of a list
pub backs_take : (requests : List Asked) (k : ℕ) (request : Asked) → slice_get requests k ≡ Some request → backs (take (suc k) requests) ≡ Sends request ∷ backs (take k requests)
backs_take requests k request there =
    let within = slice_get_within requests k request there in
    let is : get_or requests k request ≡ request = same_Some _ _ (sym (slice_get-get_or requests k request within) ∙ there) in
    ap backs (take-suc requests k request within ∙ ap (λ (r : Asked). take k requests ++ r ∷ []) is) ∙ backs_push (take k requests) request

-- the stage in which a list is gone through, where it isn't empty
pub undoes_next : (names : Names) (plan : List Op) (list : RequestList) (replies : List ℕ) (left : ℕ) (request first : Asked) → 0 < left → slice_get list.members (left - 1) ≡ Some request
    → first ≡ first_request request
    → IsStage names plan list replies (Opened true (Undoes (left - 1)) 0 first) (machine.undo_stage (words_of names) (backs (take left list.members)))
undoes_next names plan list replies left request first some there same =
    let requests = list.members in
    let k = left - 1 in
    let is : suc k ≡ left = omega (arith, some) in
    let taken = backs_take requests k request there in
    let turned : backs (take left requests) ≡ Sends request ∷ backs (take k requests) = ap (λ (n : ℕ). backs (take n requests)) (sym is) ∙ taken in
    let here : IsStage names plan list replies (Opened true (Undoes k) 0 first) (machine.undo_stage (words_of names) (Sends request ∷ backs (take k requests))) =
    (refl, (slice_get_within requests k request there, taken), refl, tt, ap (own names) same) in
    subst (λ (xs : List Series). IsStage names plan list replies (Opened true (Undoes k) 0 first) (machine.undo_stage (words_of names) xs)) (sym turned) here

-- What the machine does once a reply of a series came.
use Rattle.std.proofs.Common.{◌≡◌, ℕ, ◌+◌, ◌*◌, ◌==◌, Bool, false, if◌then◌else◌, List, [], ◌∷◌, ◌++◌, length, Option, Some, None, refl, ◌∙◌, ap}
use Rattle.std.specs.Option.{option_map}
use Rattle.std.proofs.lemmas.List.{length-append}
use Rattle.two_wire.specs.Codes.{success}
use Rattle.record_base.specs.declared.key.Key.{Key}
use Rattle.record_base.specs.declared.key.Key.TheVariants as key
use Rattle.record_base.specs.declared.op.Op.{Op}
use Rattle.record_base.specs.declared.message.Asked.{Asked}
use Rattle.pldm_base.specs.Parts.{part_length}
use Rattle.bios_attr.specs.EntryParts.{last_of, goes_on, get_part, request_at}
use Rattle.record_kinds.specs.Series.{Series, Reads, Sends}
use Rattle.undo_plans.specs.declared.names.Names.{Names}
use Rattle.model_bus.specs.Answered.{Answered}
use Rattle.model_undo.specs.Machine as machine
use Rattle.undo_core.specs.Joining.{get_after_reply}
use Rattle.undo_core.specs.Shown.{words_of, own}

-- ---- the next request of a series

-- one reply more
pub one_more : (before : List (List ℕ)) (body : List ℕ) (parts : ℕ) → length before ≡ parts → length (before ++ body ∷ []) ≡ parts + 1
one_more before body parts many = length-append before (body ∷ []) ∙ ap (λ (n : ℕ). n + 1) many

-- of one that carries a request out
pub next_sent : (names : Names) (asked : Asked) (before : List (List ℕ)) (body : List ℕ) (parts : ℕ) → length before ≡ parts
    → (words_of names).next (Sends asked) (before ++ body ∷ []) ≡ option_map (own names) (request_at asked (parts + 1))
next_sent names asked before body parts many = ap (λ (n : ℕ). option_map (own names) (request_at asked n)) (one_more before body parts many)

-- the last of them
pub last_is : (before : List (List ℕ)) (body : List ℕ) → last_of (before ++ body ∷ []) ≡ body
last_is [] body = refl
last_is (first ∷ []) body = refl
last_is (first ∷ second ∷ before) body = last_is (second ∷ before) body

-- of one that gets a record
pub next_got : (names : Names) (of : Key) (before : List (List ℕ)) (body : List ℕ) (parts : ℕ) → length before ≡ parts
    → (words_of names).next (Reads of) (before ++ body ∷ []) ≡ option_map (own names) (get_after_reply of (parts + 1) body)
next_got names (key.BiosAttribute handle) before body parts many =
    λ i. option_map (own names) (if goes_on (one_more before body parts many i) (last_is before body i) then Some (get_part handle (part_length * one_more before body parts many i)) else None)
next_got names _ before body parts many = refl

-- ---- the stage after a reply

module _ (names : Names) (stopped : Bool) (plan : List Op) (a : Answered) (of : machine.Task (words_of names)) (part : machine.Part (words_of names)) where
  told : a.code ≡ 0 → (next : Option Asked) → machine.next_asked (words_of names) a of part ≡ option_map (own names) next
      → machine.stage_after (words_of names) stopped plan a of part
      ≡ machine.told_stage (words_of names) stopped plan of (machine.bodies_with (words_of names) a part) (option_map (own names) next)
  told done next is =
      ap (λ (n : ℕ). if n == success then machine.told_stage (words_of names) stopped plan of (machine.bodies_with (words_of names) a part) (machine.next_asked (words_of names) a of part)
      else machine.refused (words_of names) n of) done
      ∙ ap (machine.told_stage (words_of names) stopped plan of (machine.bodies_with (words_of names) a part)) is

  -- another request is sent
  pub more_stage : (next : Asked) (found : Option Asked) → a.code ≡ 0 → machine.next_asked (words_of names) a of part ≡ option_map (own names) found → found ≡ Some next
      → machine.stage_after (words_of names) stopped plan a of part
      ≡ machine.goes_on (words_of names) stopped of (record { asked = own names next; before = machine.bodies_with (words_of names) a part })
  more_stage next found done is there =
      told done found is ∙ ap (λ (o : Option Asked). machine.told_stage (words_of names) stopped plan of (machine.bodies_with (words_of names) a part) (option_map (own names) o)) there

  -- that was the last
  pub last_stage : (found : Option Asked) → a.code ≡ 0 → machine.next_asked (words_of names) a of part ≡ option_map (own names) found → found ≡ None
      → machine.stage_after (words_of names) stopped plan a of part
      ≡ machine.finished (words_of names) stopped plan ((words_of names).joined (machine.series_of (words_of names) of) (machine.bodies_with (words_of names) a part)) of
  last_stage found done is there =
      told done found is ∙ ap (λ (o : Option Asked). machine.told_stage (words_of names) stopped plan of (machine.bodies_with (words_of names) a part) (option_map (own names) o)) there

  -- the request was refused
  pub refused_stage : (a.code == success) ≡ false → machine.stage_after (words_of names) stopped plan a of part ≡ machine.refused (words_of names) a.code of
  refused_stage fails =
      ap (λ (b : Bool). if b then machine.told_stage (words_of names) stopped plan of (machine.bodies_with (words_of names) a part) (machine.next_asked (words_of names) a of part)
      else machine.refused (words_of names) a.code of) fails

-- ---- the requests that undo

module _ (names : Names) (a : Answered) (step : ℕ) (op back : Op) (part : machine.Part (words_of names)) (undo : List Series) where
  -- what is kept, by the next request of the step
  abbrev kept_as : Option Asked → List Series
  kept_as found = machine.undo_with (words_of names) back (option_map (own names) found) undo

  kept : a.code ≡ 0 → (found : Option Asked) → machine.next_asked (words_of names) a (machine.Sets step op back) part ≡ option_map (own names) found
      → machine.undo_after (words_of names) a (machine.Sets step op back) part undo ≡ kept_as found
  kept done found is =
      ap (λ (n : ℕ). if n == success then machine.undo_with (words_of names) back (machine.next_asked (words_of names) a (machine.Sets step op back) part) undo else undo) done
      ∙ ap (λ (o : Option Asked). machine.undo_with (words_of names) back o undo) is

  -- the step goes on
  pub not_yet : (next : Asked) (found : Option Asked) → a.code ≡ 0 → machine.next_asked (words_of names) a (machine.Sets step op back) part ≡ option_map (own names) found → found ≡ Some next
      → machine.undo_after (words_of names) a (machine.Sets step op back) part undo ≡ undo
  not_yet next found done is there = kept done found is ∙ ap kept_as there

  -- the step was done
  pub acknowledged : (found : Option Asked) → a.code ≡ 0 → machine.next_asked (words_of names) a (machine.Sets step op back) part ≡ option_map (own names) found → found ≡ None
      → machine.undo_after (words_of names) a (machine.Sets step op back) part undo ≡ (words_of names).setting back ∷ undo
  acknowledged found done is there = kept done found is ∙ ap kept_as there

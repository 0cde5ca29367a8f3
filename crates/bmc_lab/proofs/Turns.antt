-- One step more meets something.
use Rattle.std.proofs.Common.{◌≡◌, ◌∙◌, ℕ, zero, suc, ◌+◌, ◌<◌, List, [], ◌∷◌, ◌++◌, length, take, Some, refl, sym, ap, subst, add-one, arith}
use Rattle.std.specs.Prelude.{slice_get}
use Rattle.std.proofs.Math.Seq.{take-length}
use Rattle.record_base.specs.declared.op.Op.{Op}
use Rattle.cfg_records.specs.declared.board_file.BoardFile.{BoardFile}
use Rattle.bmc_board.specs.State.{State}
use Rattle.bmc_lab.specs.declared.finding.Finding.{Finding}
use Rattle.bmc_lab.specs.Tries.{Meets, MeetInTurn}

-- behind the steps before it
pub met_more : (setup : BoardFile) (ops : List Op) (findings : List Finding) (at mid after : State) (op : Op) (finding : Finding)
    → MeetInTurn setup ops at findings mid → Meets setup op mid finding after → MeetInTurn setup (ops ++ op ∷ []) at (findings ++ finding ∷ []) after
met_more setup [] [] at mid after op finding same meets = (after, subst (λ (s : State). Meets setup op s finding after) same meets, refl)
met_more setup (first ∷ ops) (found ∷ findings) at mid after op finding met meets =
    (met.0, met.1, met_more setup ops findings met.0 mid after op finding met.2 meets)
met_more setup [] (found ∷ findings) at mid after op finding met meets = absurd met
met_more setup (first ∷ ops) [] at mid after op finding met meets = absurd met

-- the step of a place, behind those before it
pub one_at : (steps : List Op) (place : ℕ) → place < length steps → (op : Op) × (slice_get steps place ≡ Some op) × (take (suc place) steps ≡ take place steps ++ op ∷ [])
one_at [] place within = absurd (omega (arith, within))
one_at (op ∷ steps) zero within = (op, refl, refl)
one_at (op ∷ steps) (suc place) within =
    let more = one_at steps place (omega (arith, within)) in
    (more.0, more.1, ap (λ (l : List Op). op ∷ l) more.2)

-- the step of this place meets something, and so did those before it
pub next_met : (own setup : BoardFile) (steps : List Op) (place : ℕ) (findings now : List Finding) (at mid after : State) (finding : Finding) → place < length steps
    → MeetInTurn setup (take place steps) at findings mid → own ≡ setup → ((op : Op) → slice_get steps place ≡ Some op → Meets own op mid finding after)
    → now ≡ findings ++ finding ∷ [] → MeetInTurn setup (take (place + 1) steps) at now after
next_met own setup steps place findings now at mid after finding within met same meets is =
    let here = one_at steps place within in
    let grown : take (place + 1) steps ≡ take place steps ++ here.0 ∷ [] = ap (λ (n : ℕ). take n steps) (add-one place) ∙ here.2 in
    subst (λ (l : List Op). MeetInTurn setup l at now after) (sym grown)
    (subst (λ (f : List Finding). MeetInTurn setup (take place steps ++ here.0 ∷ []) at f after) (sym is)
    (met_more setup (take place steps) findings at mid after here.0 finding met (subst (λ (s : BoardFile). Meets s here.0 mid finding after) same (meets here.0 here.1))))

-- all steps met something
pub all_met : (setup : BoardFile) (steps : List Op) (place : ℕ) (findings : List Finding) (at after : State) → place ≡ length steps
    → MeetInTurn setup (take place steps) at findings after → MeetInTurn setup steps at findings after
all_met setup steps place findings at after full met =
    subst (λ (l : List Op). MeetInTurn setup l at findings after) (ap (λ (n : ℕ). take n steps) full ∙ take-length steps) met

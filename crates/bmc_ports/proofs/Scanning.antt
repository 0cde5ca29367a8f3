-- Events of a scanner, one after another.
use Rattle.std.specs.Prelude.{◌≡◌, ◌+◌, ◌++◌, ℕ, List, [], ◌∷◌, take, get_or, slice_get, Some}
use Rattle.std.proofs.Common.{ap, subst, sym, ◌∙◌}
use Rattle.std.proofs.lemmas.List.{take_more}
use Rattle.std.proofs.lemmas.Option.{slice_get_within, unwrap_or-slice_get}
use Rattle.std.specs.List.{AllZip}
use Rattle.std.specs.Option.{unwrap_or}
use Rattle.bmc_board.specs.declared.bench.Bench.{Bench}
use Rattle.bmc_shared.specs.declared.event.Call.{Call}
use Rattle.bmc_ports.specs.Scanning.{BenchCall}

-- one more happened
happened_more : (events : List Bench) (calls : List Call) (event : Bench) (call : Call) → AllZip BenchCall events calls → BenchCall event call
    → AllZip BenchCall (events ++ event ∷ []) (calls ++ call ∷ [])
happened_more [] [] event call all happens = (happens, tt)
happened_more [] (c ∷ calls) event call all happens = absurd all
happened_more (e ∷ events) [] event call all happens = absurd all
happened_more (e ∷ events) (c ∷ calls) event call (one, all) happens = (one, happened_more events calls event call all happens)

-- the first events happened, and the next one does
pub happens_on : (events : List Bench) (place : ℕ) (event : Bench) (gained : List Call) (call : Call) → AllZip BenchCall (take place events) gained
    → slice_get events place ≡ Some event → BenchCall event call → AllZip BenchCall (take (place + 1) events) (gained ++ call ∷ [])
happens_on events place event gained call before at happens =
    let is : get_or events place event ≡ event = sym (unwrap_or-slice_get events place event) ∙ ap (λ found. unwrap_or found event) at in
    let more : take (place + 1) events ≡ take place events ++ event ∷ [] =
    take_more events place event (slice_get_within events place event at) ∙ ap (λ e. take place events ++ e ∷ []) is in
    subst (λ (first : List Bench). AllZip BenchCall first (gained ++ call ∷ [])) (sym more) (happened_more (take place events) gained event call before happens)

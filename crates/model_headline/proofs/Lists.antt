-- Lists of calls, of events and of what is kept.
use Rattle.std.proofs.Common.{◌≡◌, ◌==◌, ℕ, ◌≤◌, Bool, true, false, cond, List, [], ◌∷◌, ◌++◌, All, map, filter, refl, sym, ◌∙◌, ap, subst}
use Rattle.std.specs.List.{AllZip}
use Rattle.std.proofs.lemmas.List.{append-nil, append_assoc, map-append}
use Rattle.std.proofs.lemmas.List.Elements.{All-nil, All-cons, filter-append}
use Rattle.cfg_records.specs.declared.board_file.BoardFile.{BoardFile}
use Rattle.bmc_board.specs.State.{State}
use Rattle.model_bus.specs.Request.{Kept, Entry}
use Rattle.bmc_shared.specs.declared.event.Call.{Call}
use Rattle.bmc_shared.specs.declared.event.Event.{Event as BoardEvent}
use Rattle.bmc_shared.specs.Replay.{calls_of, after_call, IsReplay}
use Rattle.model_headline.specs.Histories.{all_carried, IsCall, CarriesOut}

-- ---- what a port carried out

zips_both : (ks : List Kept) (cs : List Call) (later : List Kept) (more : List Call) → AllZip IsCall ks cs → AllZip IsCall later more → AllZip IsCall (ks ++ later) (cs ++ more)
zips_both [] [] later more is then = then
zips_both [] (c ∷ cs) later more is then = absurd is
zips_both (k ∷ ks) [] later more is then = absurd is
zips_both (k ∷ ks) (c ∷ cs) later more is then = (is.0, zips_both ks cs later more is.1 then)

pub carries_none : (log : List Entry) → CarriesOut [] log log
carries_none log = ([], sym (append-nil (all_carried log)), tt)

pub carries_both : (cs more : List Call) (a b c : List Entry) → CarriesOut cs a b → CarriesOut more b c → CarriesOut (cs ++ more) a c
carries_both cs more a b c first then = (
  first.0 ++ then.0,
  then.1 ∙ ap (λ (ks : List Kept). ks ++ then.0) first.1 ∙ append_assoc (all_carried a) first.0 then.0,
  zips_both first.0 cs then.0 more first.2 then.2,
)

-- ---- a history, one part after another

pub replays_both : (file : BoardFile) (first mid last : State) (events later : List BoardEvent) → IsReplay file first events mid → IsReplay file mid later last → IsReplay file first (events ++ later) last
replays_both file first mid last [] later run then = subst (λ (s : State). IsReplay file s later last) (sym run) then
replays_both file first mid last (event ∷ events) later run then = (run.0, replays_both file (after_call file first event.call) mid last events later run.1 then)

pub calls_both : (seat : ℕ) (events later : List BoardEvent) → calls_of seat (events ++ later) ≡ calls_of seat events ++ calls_of seat later
calls_both seat events later =
    let its = λ (event : BoardEvent). event.seat == seat in
    ap (map (λ (event : BoardEvent). event.call)) (filter-append its events later) ∙ map-append (λ (event : BoardEvent). event.call) (filter its events) (filter its later)

-- ---- calls of one seat

abbrev pub at_seat : ℕ → List Call → List BoardEvent
at_seat seat [] = []
at_seat seat (call ∷ calls) = record { seat = seat; call = call } ∷ at_seat seat calls

pub seats_both : (seat : ℕ) (calls more : List Call) → at_seat seat (calls ++ more) ≡ at_seat seat calls ++ at_seat seat more
seats_both seat [] more = refl
seats_both seat (call ∷ calls) more = ap (λ (events : List BoardEvent). record { seat = seat; call = call } ∷ events) (seats_both seat calls more)

pub own : (seat : ℕ) (calls : List Call) → (seat == seat) ≡ true → calls_of seat (at_seat seat calls) ≡ calls
own seat [] same = refl
own seat (call ∷ calls) same =
    let events = filter (λ (event : BoardEvent). event.seat == seat) (at_seat seat calls) in
    let one : BoardEvent = record { seat = seat; call = call } in
    ap (λ (t : Bool). map (λ (event : BoardEvent). event.call) (cond t (one ∷ events) events)) same ∙ ap (λ (cs : List Call). call ∷ cs) (own seat calls same)

pub none_of : (seat other : ℕ) (calls : List Call) → (other == seat) ≡ false → calls_of seat (at_seat other calls) ≡ []
none_of seat other [] differs = refl
none_of seat other (call ∷ calls) differs =
    let events = filter (λ (event : BoardEvent). event.seat == seat) (at_seat other calls) in
    let one : BoardEvent = record { seat = other; call = call } in
    ap (λ (t : Bool). map (λ (event : BoardEvent). event.call) (cond t (one ∷ events) events)) differs ∙ none_of seat other calls differs

pub all_seated : (seat : ℕ) (calls : List Call) → seat ≤ 2 → All (λ (event : BoardEvent). event.seat ≤ 2) (at_seat seat calls)
all_seated seat [] few = All-nil (λ (event : BoardEvent). event.seat ≤ 2)
all_seated seat (call ∷ calls) few = All-cons (λ (event : BoardEvent). event.seat ≤ 2) (record { seat = seat; call = call }) (at_seat seat calls) few (all_seated seat calls few)

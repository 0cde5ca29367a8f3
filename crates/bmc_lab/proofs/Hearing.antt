-- A port hears one frame more.
use Rattle.std.proofs.Common.{◌≡◌, ◌∙◌, ℕ, ◌+◌, ◌<◌, List, [], ◌∷◌, ◌++◌, take, length, get_or, refl, sym, ap, subst}
use Rattle.std.proofs.lemmas.List.{take_more}
use Rattle.cfg_records.specs.declared.board_file.BoardFile.{BoardFile}
use Rattle.bmc_board.specs.State.{State}
use Rattle.bmc_core.specs.declared.out.Out.{Out}
use Rattle.bmc_core.specs.declared.port.Port.{Port}
use Rattle.bmc_core.specs.Outs.{waiting}
use Rattle.bmc_core.specs.Port.{PortStep}
use Rattle.bmc_lab.specs.Heard.{HearsInTurn}

-- behind those that it heard
hears_more : (setup : BoardFile) (last : Out) (port : Port) (before : State) (frames : List (List ℕ)) (did : Out) (mid : Port) (left : State) (frame : List ℕ) (out : Out) (next : Port) (after : State)
    → HearsInTurn setup last port before frames did mid left → PortStep setup mid left frame out next after → HearsInTurn setup last port before (frames ++ frame ∷ []) out next after
hears_more setup last port before [] did mid left frame out next after same heard =
    (out, next, after, subst (λ (s : State). PortStep setup port s frame out next after) same.2 (subst (λ (p : Port). PortStep setup p left frame out next after) same.1 heard), (refl, refl, refl))
hears_more setup last port before (first ∷ frames) did mid left frame out next after some heard =
    (some.0, some.1, some.2, some.3, hears_more setup some.0 some.1 some.2 frames did mid left frame out next after some.4 heard)

-- the frame of a place, behind those before it, over a board of this file
pub hears_next : (own file : BoardFile) (port : Port) (before : State) (frames : List (List ℕ)) (place : ℕ) (did : Out) (mid : Port) (left : State) (frame bytes : List ℕ) (out : Out) (next : Port) (after : State)
    → place < length frames → frame ≡ get_or frames place frame → bytes ≡ frame → own ≡ file
    → HearsInTurn file waiting port before (take place frames) did mid left → PortStep own mid left bytes out next after
    → HearsInTurn file waiting port before (take (place + 1) frames) out next after
hears_next own file port before frames place did mid left frame bytes out next after within is read same heard hears =
    let longer : take (place + 1) frames ≡ take place frames ++ frame ∷ [] =
    take_more frames place frame within ∙ ap (λ (f : List ℕ). take place frames ++ f ∷ []) (sym is) in
    let here : PortStep file mid left frame out next after =
    subst (λ (f : BoardFile). PortStep f mid left frame out next after) same (subst (λ (b : List ℕ). PortStep own mid left b out next after) read hears) in
    subst (λ (fs : List (List ℕ)). HearsInTurn file waiting port before fs out next after) (sym longer)
    (hears_more file waiting port before (take place frames) did mid left frame out next after heard here)

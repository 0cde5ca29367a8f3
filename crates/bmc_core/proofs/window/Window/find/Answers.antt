use Rattle.std.proofs.Common.{◌≡◌, List, ℕ, ◌∷◌, Some, true, false, arith, refl, sym, ◌∙◌, ap}
use Rattle.bmc_core.specs.Window.{WindowEntry}
use Rattle.bmc_core.proofs.Rooms.{found_here}
use Rattle.bmc_core.proofs.window.Window.find.Goals as goal

pub is-requires : goal.is-requires
is-requires g c = omega arith

pub as_slice-requires : goal.as_slice-requires
as_slice-requires g c = omega arith

pub returns-then-is : goal.returns-then-is
returns-then-is g c =
    let reply : c.new.result ≡ c.index-place.result.now.reply = c.new.ensures ∙ c.as_slice.ensures.value ∙ ap (λ (p : WindowEntry). p.reply) c.place.view_is in
    ap (λ (r : List ℕ). Some r) reply
    ∙ sym (found_here g.row.NUMBERS c.args.number c.args.number c.from.result (c.args.first ∷ c.args.rest.now) c.index-place.result.now true _ _ c.self.view_is refl c.from.ensures
    c.if-self-number-eq0.false c.self.invariant.0 c.requires c.index-place.ensures (sym c.if-is.true ∙ c.is.ensures))

pub returns-else-is : goal.returns-else-is
returns-else-is g c =
    sym (found_here g.row.NUMBERS c.args.number c.args.number c.from.result (c.args.first ∷ c.args.rest.now) c.index-place.result.now false _ _ c.self.view_is refl c.from.ensures
    c.if-self-number-eq0.false c.self.invariant.0 c.requires c.index-place.ensures (sym c.if-is.false ∙ c.is.ensures))

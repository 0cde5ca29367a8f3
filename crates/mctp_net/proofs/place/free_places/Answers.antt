use Rattle.std.proofs.Common.{◌≡◌, ℕ, zero, suc, ◌+◌, List, [], ◌∷◌, ◌++◌, replicate, refl, ◌∙◌, ap, arith}
use Rattle.mctp_net.specs.declared.place.Place.{Place}
use Rattle.mctp_net.specs.Places.{free_place}
use Rattle.mctp_net.proofs.place.free_places.Goals as goal

-- one more of the same
one_more : (n : ℕ) (p : Place) → replicate n p ++ p ∷ [] ≡ replicate (suc n) p
one_more zero p = refl
one_more (suc n) p = ap (λ (ps : List Place). p ∷ ps) (one_more n p)

-- a free place behind so many
pushed : (old new : List Place) (p : Place) (n : ℕ) → new ≡ old ++ p ∷ [] → old ≡ replicate n free_place → p ≡ free_place → new ≡ replicate (n + 1) free_place
pushed old new p n behind all free =
    let next : suc n ≡ n + 1 = omega arith in
    behind ∙ (λ i. all i ++ free i ∷ []) ∙ one_more n free_place ∙ ap (λ (k : ℕ). replicate k free_place) next

pub loop-init : goal.loop-init
loop-init c = (c.in_ok-places.ensures.items, omega (arith, c.in_ok-places.ensures.capacity))

pub loop-preserved : goal.loop-preserved
loop-preserved c = (
  pushed c.loop.places.items c.push_reserved.new.self.items c.free.result c.loop.counter c.push_reserved.ensures.items c.loop.invariant.0 c.free.ensures,
  omega (arith, c.loop.invariant.1, c.push_reserved.ensures.capacity),
)

-- Workers that go on, round by round, as long as turns are left.
use Rattle.std.proofs.Common.{◌≡◌, ◌≢◌, ◌≤◌, ◌+◌, ◌∙◌, ◌⊎◌, inl, inr, refl, sym, ℕ, zero, suc, Bool, true, false, List, Option, length, arith}
use Rattle.wire_links.specs.declared.link.Link.{Ghosts}
use Rattle.bmc_shared.specs.declared.event.Call.{Call}
use Rattle.bmc_shared.specs.declared.worker.End.{End}
use Rattle.bmc_shared.specs.declared.worker.End.TheVariants.{Turns, Full}
use Rattle.bmc_ports.specs.declared.lane.Lanes.{Lanes}
use Rattle.bmc_ports.specs.declared.timetable.TimedEnd.{TimedEnd}
use Rattle.bmc_ports.specs.declared.timetable.TimedEnd.TheVariants as timed
use Rattle.bmc_ports.specs.Slices.{WorkerEnd, IsDone}

-- the turns that both workers have left
abbrev pub turns_left : {A B : Type 0} → Lanes A B → ℕ
turns_left lanes = lanes.first.turns + lanes.second.turns

-- no test answers both
pub clash : (answer : Bool) → answer ≡ false → answer ≡ true → ⊥
clash answer isnt is = let both : false ≡ true = sym isnt ∙ is in cc both

-- where not both have none, one has some
pub has_turns : (first second : ℕ) → ((first ≡ 0) × (second ≡ 0) → ⊥) → 1 ≤ first + second
has_turns zero zero some = absurd (some (refl, refl))
has_turns zero (suc second) some = omega arith
has_turns (suc first) second some = omega arith

-- turns are left, and then fewer
pub fewer : (now next taken all : ℕ) → now + taken ≤ all → next + 1 ≤ now → next + (taken + 1) ≤ all
fewer now next taken all within less = omega (arith, within, less)

-- one of two has one, where both together have
one_has : (first second : ℕ) → 1 ≤ first + second → (1 ≤ first) ⊎ (1 ≤ second)
one_has zero second some = let least : 1 ≤ second = omega (arith, some) in inr least
one_has (suc first) second some = let least : 1 ≤ suc first = omega arith in inl least

-- who makes a turn has fewer left, whatever the other does
fewer_left : (made left had others rest all : ℕ) → made + left ≡ had → others + rest ≡ all → (1 ≤ made) ⊎ (1 ≤ others) → left + rest + 1 ≤ had + all
fewer_left made left had others rest all is are (inl one) = omega (arith, is, are, one)
fewer_left made left had others rest all is are (inr one) = omega (arith, is, are, one)

-- who has turns makes one
makes_one : (had made all others : ℕ) → (1 ≤ had → 1 ≤ made) → (1 ≤ all → 1 ≤ others) → (1 ≤ had) ⊎ (1 ≤ all) → (1 ≤ made) ⊎ (1 ≤ others)
makes_one had made all others first second (inl some) = inl (first some)
makes_one had made all others first second (inr some) = inr (second some)

-- a worker that found room made its turns
pub found_room : (end : End) → (end ≡ Full → ⊥) → end ≡ Turns
found_room Turns none = refl
found_room Full none = absurd (none refl)

module _ {A B : Type 0} (on_first : Ghosts A) (on_second : Ghosts B) where
  -- workers that go on with turns left make one at least
  pub takes_turns : (one two : End) (held kept listed calls : List Call) (before after : Lanes A B)
      → WorkerEnd on_first one held kept before.first after.first
      → WorkerEnd on_second two listed calls before.second after.second
      → 1 ≤ turns_left before → turns_left after + 1 ≤ turns_left before
  takes_turns one two held kept listed calls before after first second some =
      let made : ℕ = length first.heard in
      let others : ℕ = length second.heard in
      fewer_left made after.first.turns before.first.turns others after.second.turns before.second.turns first.makes.turns second.makes.turns
      (makes_one before.first.turns made before.second.turns others first.least second.least (one_has before.first.turns before.second.turns some))

-- workers that aren't done have turns left, and found room, as the scanner did
pub not_done : {A B : Type 0} (least : Option ℕ) (one two : End) (scanner : TimedEnd) (lanes : Lanes A B) → (IsDone least one two scanner lanes → ⊥)
    → (one ≡ Turns) × (two ≡ Turns) × (scanner ≢ timed.Full) × (1 ≤ turns_left lanes)
not_done least one two scanner lanes on = (
  found_room one (λ full. on (inl (inl (inl full)))),
  found_room two (λ full. on (inl (inl (inr full)))),
  (λ full. on (inl (inr full))),
  has_turns lanes.first.turns lanes.second.turns (λ over. on (inr (inl over))),
)

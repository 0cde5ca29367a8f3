-- Whom a frame comes from, by what it is read as.
use Rattle.std.proofs.Common.{◌≡◌, ◌↔◌, ℕ, Option, Some, None, Result, Ok, Err}

-- what isn't read comes from nobody
pub unread : {Message Fault : Type 0} (Reads : Message → Type 0) (from : Message → ℕ) (why : Fault)
    → ((other : Message) → Reads other → (let here : Result Message Fault = Err why in here ≡ Ok other))
    → (who : ℕ) → (let none : Option ℕ = None in none ≡ Some who) ↔ ((other : Message) × Reads other × (from other ≡ who))
unread Reads from why fails who = ((λ given. cc given), (λ given. let bad = fails given.0 given.1 in cc bad))

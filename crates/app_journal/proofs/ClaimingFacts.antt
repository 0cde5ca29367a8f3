-- Which words with a number are taken.
use Rattle.std.proofs.Common.{◌≡◌, ◌+◌, ◌≤◌, ℕ, List, Option, Some, None, String, Global, false, below_more, refl, subst}
use Rattle.app_journal.specs.Claiming.{AreTaken, IsFirstFree, IsFreeAt, Places, numbered, numbers_end}

-- one more is taken
pub more_taken : (leads : Places) (word : List ℕ) (number : ℕ) → AreTaken leads word number → IsFreeAt leads (numbered word number) false → AreTaken leads word (number + 1)
more_taken leads word number taken here lower from below =
    below_more (λ n. 1 ≤ n → IsFreeAt leads (numbered word n) false) number (λ n less least. taken n least less) (λ least. here) lower below from

-- where no first one is free all are taken, of a word that is the same
pub none_free : (leads : Places) (word part : List ℕ) (found : Option (String Global)) → word ≡ part → ((name : String Global) → found ≡ Some name → ⊥) → IsFirstFree leads word found
    → AreTaken leads part numbers_end
none_free leads word part None same not first = subst (λ (w : List ℕ). AreTaken leads w numbers_end) same first
none_free leads word part (Some name) same not first = absurd (not name refl)

-- so is the first free one
pub first_free : (leads : Places) (word part : List ℕ) (found : Option (String Global)) (name : String Global) → word ≡ part → found ≡ Some name → IsFirstFree leads word found
    → IsFirstFree leads part (Some name)
first_free leads word part found name same is first =
    subst (λ (w : List ℕ). IsFirstFree leads w (Some name)) same (subst (λ (o : Option (String Global)). IsFirstFree leads word o) is first)

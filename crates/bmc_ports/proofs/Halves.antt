-- A manager that is driven for some turns, and then for others.
use Rattle.std.specs.Prelude.{sum_by}
use Rattle.std.proofs.Common.{◌≡◌, ℕ, zero, suc, ◌+◌, ◌-◌, ◌≤◌, ◌<◌, ◌++◌, List, [], ◌∷◌, None, ◌⊎◌, inl, inr, refl, sym, ◌∙◌, ap, subst, arith}
use Rattle.std.proofs.lemmas.Bool.{cases_lt}
use Rattle.std.proofs.lemmas.List.Sums.{sum_by-append, sum_by-cons}
use Rattle.two_wire.specs.declared.Bus.{Bus}
use Rattle.two_wire.specs.declared.Bus.TheVariants.{Ipmb, Smbus}
use Rattle.wire_links.specs.declared.link.Counts.{Counts}
use Rattle.wire_links.specs.declared.link.Heard.{Heard}
use Rattle.wire_links.specs.declared.link.LinkFault.{LinkFault}
use Rattle.wire_links.specs.Counted.{counted_on}
use Rattle.wire_links.proofs.Counting.{counted_twice}
use Rattle.undo_plans.specs.declared.names.Names.{Names}
use Rattle.std.specs.Prelude.{Result}
use Rattle.bmc_ports.specs.Driving.{Turnout, Answers, FailsToSend, calls_on, heard_on, failures_on, HasCounted, HaveCounted, Links, turns_in, DrivenState, open_at, ReachesBy, LeadsThrough, DrivenTurns, DrivenTwice, DrivesOn}
use Rattle.bmc_ports.proofs.Turns.{summed, leads_nowhere, drives_both}

-- ---- where so many turns end

-- the first of these that make so many turns, and the others
record Split (turns : ℕ) (came : List Turnout) : Type 0 where
  pub first : List Turnout
  pub later : List Turnout
  pub all : came ≡ first ++ later
  pub made : turns_in first ≡ turns

turns_next : (on : Bus) (answer : Result Heard LinkFault) (later : List Turnout) → turns_in (Answers on answer ∷ later) ≡ suc (turns_in later)
turns_next Ipmb answer later =
    let first : sum_by (calls_on Ipmb) (Answers Ipmb answer ∷ later) ≡ 1 + sum_by (calls_on Ipmb) later = sum_by-cons (calls_on Ipmb) (Answers Ipmb answer) later in
    let second : sum_by (calls_on Smbus) (Answers Ipmb answer ∷ later) ≡ 0 + sum_by (calls_on Smbus) later = sum_by-cons (calls_on Smbus) (Answers Ipmb answer) later in
    omega (arith, first, second)
turns_next Smbus answer later =
    let first : sum_by (calls_on Ipmb) (Answers Smbus answer ∷ later) ≡ 0 + sum_by (calls_on Ipmb) later = sum_by-cons (calls_on Ipmb) (Answers Smbus answer) later in
    let second : sum_by (calls_on Smbus) (Answers Smbus answer ∷ later) ≡ 1 + sum_by (calls_on Smbus) later = sum_by-cons (calls_on Smbus) (Answers Smbus answer) later in
    omega (arith, first, second)

turns_unsent : (on : Bus) (later : List Turnout) → turns_in (FailsToSend on ∷ later) ≡ turns_in later
turns_unsent on later =
    let first : sum_by (calls_on Ipmb) (FailsToSend on ∷ later) ≡ 0 + sum_by (calls_on Ipmb) later = sum_by-cons (calls_on Ipmb) (FailsToSend on) later in
    let second : sum_by (calls_on Smbus) (FailsToSend on ∷ later) ≡ 0 + sum_by (calls_on Smbus) later = sum_by-cons (calls_on Smbus) (FailsToSend on) later in
    omega (arith, first, second)

split : (turns : ℕ) (came : List Turnout) → turns ≤ turns_in came → Split turns came
split zero came few = record { first = []; later = came; all = refl; made = refl }
split (suc turns) [] few = absurd (omega (arith, few))
split (suc turns) (Answers on answer ∷ later) few =
    let rest = split turns later (omega (arith, few, turns_next on answer later)) in record {
      first = Answers on answer ∷ rest.first;
      later = rest.later;
      all = ap (λ (xs : List Turnout). Answers on answer ∷ xs) rest.all;
      made = turns_next on answer rest.first ∙ ap suc rest.made;
    }
split (suc turns) (FailsToSend on ∷ later) few =
    let rest = split (suc turns) later (omega (arith, few, turns_unsent on later)) in record {
      first = FailsToSend on ∷ rest.first;
      later = rest.later;
      all = ap (λ (xs : List Turnout). FailsToSend on ∷ xs) rest.all;
      made = turns_unsent on rest.first ∙ rest.made;
    }

-- ---- what is counted there

counted_first : Bus → List Turnout → Counts → Counts
counted_first on came counts = record {
  failures = counted_on counts.failures (sum_by (failures_on on) came);
  calls = counted_on counts.calls (sum_by (calls_on on) came);
  heard = counted_on counts.heard (sum_by (heard_on on) came);
  sends = counts.sends;
}

first_counted : (on : Bus) (came : List Turnout) (counts : Counts) → HasCounted on came counts (counted_first on came counts)
unfolding counted_first
first_counted on came counts = record { calls = refl; heard = refl; failures = refl }

counted_rest : (f : Turnout → ℕ) (first later : List Turnout) (a c : ℕ) → c ≡ counted_on a (sum_by f (first ++ later)) → c ≡ counted_on (counted_on a (sum_by f first)) (sum_by f later)
counted_rest f first later a c is = is ∙ ap (counted_on a) (sym (summed f first later)) ∙ sym (counted_twice a (sum_by f first) (sum_by f later))

later_counted : (on : Bus) (first later : List Turnout) (a c : Counts) → HasCounted on (first ++ later) a c → HasCounted on later (counted_first on first a) c
unfolding counted_first
later_counted on first later a c counted = record {
  calls = counted_rest (calls_on on) first later a.calls c.calls counted.calls;
  heard = counted_rest (heard_on on) first later a.heard c.heard counted.heard;
  failures = counted_rest (failures_on on) first later a.failures c.failures counted.failures;
}

module _ (names : Names) where
  reaches_first : (first later : List Turnout) (s u : DrivenState names) → ReachesBy names (first ++ later) s u → (t : DrivenState names) × ReachesBy names first s t × ReachesBy names later t u
  reaches_first [] later s u reaches = (s, refl, reaches)
  reaches_first (came ∷ first) later s u (deed, is_open, is, rest) =
      let found = reaches_first first later deed.manager u rest in
      (found.0, (deed, is_open, is, found.1), found.2)

  -- turns of which so many come first
  record Halves (turns more : ℕ) (s u : DrivenState names) (a c : Links) : Type 0 where
    pub between : DrivenState names
    pub met : Links
    pub begins : LeadsThrough names turns s between a met
    pub ends : LeadsThrough names more between u met c

  halves : (turns more : ℕ) (s u : DrivenState names) (a c : Links) (leads : LeadsThrough names (turns + more) s u a c) (parts : Split turns leads.came) → Halves turns more s u a c
  halves turns more s u a c leads parts =
      let reaches = reaches_first parts.first parts.later s u (subst (λ (came : List Turnout). ReachesBy names came s u) parts.all leads.reaches) in
      let counted = subst (λ (came : List Turnout). HaveCounted came a c) parts.all leads.counted in
      let all : turns_in (parts.first ++ parts.later) ≡ turns + more = subst (λ (came : List Turnout). turns_in came ≡ turns + more) parts.all leads.turns_made in record {
        between = reaches.0;
        met = record { ipmb = counted_first Ipmb parts.first a.ipmb; smbus = counted_first Smbus parts.first a.smbus };
        begins = record {
          came = parts.first;
          turns_made = parts.made;
          reaches = reaches.1;
          counted = (first_counted Ipmb parts.first a.ipmb, first_counted Smbus parts.first a.smbus);
        };
        ends = record {
          came = parts.later;
          turns_made = omega (arith, all, parts.made, sum_by-append (calls_on Ipmb) parts.first parts.later, sum_by-append (calls_on Smbus) parts.first parts.later);
          reaches = reaches.2;
          counted = (
            later_counted Ipmb parts.first parts.later a.ipmb c.ipmb counted.0,
            later_counted Smbus parts.first parts.later a.smbus c.smbus counted.1,
          );
        };
      }

  -- ---- a drive

  -- it made no more turns than come first, so nothing is left to do
  all_first : (turns more made : ℕ) (s u : DrivenState names) (a c : Links) → made ≤ turns → LeadsThrough names made s u a c → (made ≡ turns + more) ⊎ (open_at names u ≡ None)
      → DrivenTwice names turns more s u a c
  all_first turns more made s u a c few leads (inr none) = record {
    between = u;
    met = c;
    begins = record { made = made; few = few; leads = leads; ended = inr none };
    ends = record { made = 0; few = omega arith; leads = leads_nowhere names u c; ended = inr none };
  }
  all_first turns more made s u a c few leads (inl all) =
      let first : made ≡ turns = omega (arith, few, all) in
      let none : 0 ≡ more = omega (arith, few, all) in record {
        between = u;
        met = c;
        begins = record { made = made; few = few; leads = leads; ended = inl first };
        ends = record { made = 0; few = omega arith; leads = leads_nowhere names u c; ended = inl none };
      }

  ended_later : (turns more others : ℕ) (u : DrivenState names) → (turns + others ≡ turns + more) ⊎ (open_at names u ≡ None) → (others ≡ more) ⊎ (open_at names u ≡ None)
  ended_later turns more others u (inl all) = inl (omega (arith, all))
  ended_later turns more others u (inr none) = inr none

  -- it made others behind them
  some_later : (turns more others : ℕ) (s u : DrivenState names) (a c : Links) → others ≤ more → (turns + others ≡ turns + more) ⊎ (open_at names u ≡ None) → Halves turns others s u a c
      → DrivenTwice names turns more s u a c
  some_later turns more others s u a c few ended parts = record {
    between = parts.between;
    met = parts.met;
    begins = record { made = turns; few = omega arith; leads = parts.begins; ended = inl refl };
    ends = record { made = others; few = few; leads = parts.ends; ended = ended_later turns more others u ended };
  }

  more_made : (turns more made : ℕ) (s u : DrivenState names) (a c : Links) → turns ≤ made → made ≤ turns + more → LeadsThrough names made s u a c
      → (made ≡ turns + more) ⊎ (open_at names u ≡ None) → DrivenTwice names turns more s u a c
  more_made turns more made s u a c least few leads ended =
      let others = made - turns in
      let same : made ≡ turns + others = omega (arith, least) in
      let all : LeadsThrough names (turns + others) s u a c = subst (λ (n : ℕ). LeadsThrough names n s u a c) same leads in
      some_later turns more others s u a c (omega (arith, few, least)) (subst (λ (n : ℕ). (n ≡ turns + more) ⊎ (open_at names u ≡ None)) same ended)
      (halves turns others s u a c all (split turns all.came (omega (arith, all.turns_made))))

  twice : (turns more : ℕ) (s u : DrivenState names) (a c : Links) (driven : DrivenTurns names (turns + more) s u a c) → (driven.made < turns) ⊎ (turns ≤ driven.made) → DrivenTwice names turns more s u a c
  twice turns more s u a c driven (inl less) = all_first turns more driven.made s u a c (omega (arith, less)) driven.leads driven.ended
  twice turns more s u a c driven (inr least) = more_made turns more driven.made s u a c least driven.few driven.leads driven.ended

pub drives_on : DrivesOn
drives_on names turns more s u a c = (
  (λ twice. drives_both names turns more s twice.between u a twice.met c twice.begins twice.ends),
  (λ driven. twice names turns more s u a c driven (cases_lt driven.made turns)),
)

-- What holds of each request of a manager's series.
use Rattle.std.proofs.Common.{◌≡◌, ℕ, ◌*◌, ◌<◌, Bool, true, false, cond, List, length, Option, Some, None, refl, sym, subst, arith, inl, inr}
use Rattle.std.specs.Prelude.{◌==◌, nat_lt}
use Rattle.std.specs.Option.{option_map}
use Rattle.std.proofs.lemmas.Bool.{eqb-true}
use Rattle.std.proofs.lemmas.Bool.Decides.{nat_tests}
use Rattle.std.proofs.lemmas.Option.{same_Some, none-some}
use Rattle.two_wire.specs.declared.Bus.{Bus}
use Rattle.record_base.specs.declared.key.Key.{Key}
use Rattle.record_base.specs.declared.key.Key.TheVariants as key
use Rattle.record_base.specs.declared.op.Op.{Op}
use Rattle.record_base.specs.declared.message.Asked.{Asked}
use Rattle.pldm_base.specs.Parts.{part_length}
use Rattle.bios_attr.specs.EntryParts.{entry_in, set_part, part_at, first_request, request_at, alone_at, get_part, goes_on, last_of}
use Rattle.record_kinds.specs.Limits.{get_asked}
use Rattle.record_kinds.specs.Series.{Series, Reads, set_whole, first_of, next_after}
use Rattle.model_bus.specs.Addresses.{Addresses}
use Rattle.model_undo.specs.Words.{IsOneOf, IsSeries, IsMade}
use Rattle.model_lab.specs.ManagerWords.{from_manager, manager_words}

-- ---- the requests that carry a request out

-- a request that is there is another with its sender
pub mapped : {X Y : Type 0} (f : X → Y) (o : Option X) (y : Y) → option_map f o ≡ Some y → (x : X) × (o ≡ Some x) × (f x ≡ y)
mapped f None y e = absurd (none-some y e)
mapped f (Some x) y e = (x, refl, same_Some _ _ e)

-- the part of this place has these data
pub part_is : (body : List ℕ) (place : ℕ) (part : List ℕ) → part_at body place ≡ Some part → (part_length * place < length (entry_in body)) × (set_part (entry_in body) (part_length * place) ≡ part)
part_is body place part e = by (nat_lt (part_length * place) (length (entry_in body))) refl e
  where
    by : (t : Bool) → nat_lt (part_length * place) (length (entry_in body)) ≡ t → cond t (Some (set_part (entry_in body) (part_length * place))) None ≡ Some part
        → (part_length * place < length (entry_in body)) × (set_part (entry_in body) (part_length * place) ≡ part)
    by true t e = (grind (arith, nat_tests), same_Some _ _ e)
    by false t e = absurd (none-some part e)

-- a request that is alone has the first place, and none has another
pub alone_is : (asked : Asked) (place : ℕ) (next : Asked) → alone_at asked place ≡ Some next → (place ≡ 0) × (asked ≡ next)
alone_is asked place next e = by (place == 0) refl e
  where
    by : (t : Bool) → (place == 0) ≡ t → cond t (Some asked) None ≡ Some next → (place ≡ 0) × (asked ≡ next)
    by true t e = (eqb-true _ _ t, same_Some _ _ e)
    by false t e = absurd (none-some next e)

-- ---- of which sort a request is

-- so it is of the request for each record and for each part of an attribute, and of all that carry an operation out
pub record IsOfAll (Q : Asked → Type 0) : Type 0 where
  pub gets : (k : Key) → Q (get_asked k)
  pub get_parts : (handle transfer : ℕ) → Q (get_part handle transfer)
  pub sets : (o : Op) → Q (first_request (set_whole o))
  pub set_parts : (o : Op) (place : ℕ) (asked : Asked) → request_at (set_whole o) place ≡ Some asked → Q asked

module _ (at : Bus → Addresses) (Q : Asked → Type 0) (of_all : IsOfAll Q) where
  reads_on : (k : Key) (bodies : List (List ℕ)) (asked : Asked) → next_after (Reads k) bodies ≡ Some asked → Q asked
  reads_on (key.BiosAttribute handle) bodies asked e = by (goes_on (length bodies) (last_of bodies)) e
    where
      by : (t : Bool) → cond t (Some (get_part handle (part_length * length bodies))) None ≡ Some asked → Q asked
      by true e = subst Q (same_Some _ _ e) (of_all.get_parts handle (part_length * length bodies))
      by false e = absurd (none-some asked e)
  reads_on _ bodies asked e = absurd (none-some asked e)

  first_so : (series : Series) → IsSeries (manager_words at) series → Q (first_of series)
  first_so series (inl is) = subst (λ (s : Series). Q (first_of s)) (sym is.1) (of_all.gets is.0)
  first_so series (inr is) = subst (λ (s : Series). Q (first_of s)) (sym is.1) (of_all.sets is.0)

  next_so : (series : Series) (bodies : List (List ℕ)) (asked : Asked) → IsSeries (manager_words at) series → next_after series bodies ≡ Some asked → Q asked
  next_so series bodies asked (inl is) e = reads_on is.0 bodies asked (subst (λ (s : Series). next_after s bodies ≡ Some asked) is.1 e)
  next_so series bodies asked (inr is) e = of_all.set_parts is.0 (length bodies) asked (subst (λ (s : Series). next_after s bodies ≡ Some asked) is.1 e)

  -- so it is of each request that a manager makes, whoever its sender is
  pub made_so : ((asked : Asked) → Q asked → Q (from_manager at asked)) → (asked : Asked) → IsMade (manager_words at) asked → Q asked
  made_so keeps asked made = by made.0 made.1 made.2
    where
      by : (series : Series) → IsSeries (manager_words at) series → IsOneOf (manager_words at) series asked → Q asked
      by series is (inl same) = subst Q (sym same) (keeps (first_of series) (first_so series is))
      by series is (inr one) = let raw = mapped (from_manager at) (next_after series one.0) asked one.1 in subst Q raw.2 (keeps raw.0 (next_so series one.0 raw.0 is raw.1))

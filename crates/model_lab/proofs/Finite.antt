-- Each series of the manager's has an end.
use Rattle.std.proofs.Common.{◌≡◌, ℕ, ◌+◌, ◌*◌, ◌≤◌, Bool, true, false, List, length, Some, None, refl, ◌∙◌, ap, if◌then◌else◌, inl, inr, arith}
use Rattle.std.specs.Prelude.{◌==◌}
use Rattle.std.specs.Option.{option_map}
use Rattle.std.proofs.lemmas.Bool.{and_parts, ltb-true, le-ltb}
use Rattle.std.proofs.lemmas.Bool.Decides.{nat_tests}
use Rattle.two_wire.specs.declared.Bus.{Bus}
use Rattle.record_base.specs.declared.key.Key.{Key}
use Rattle.record_base.specs.declared.key.Key.TheVariants as key
use Rattle.record_base.specs.declared.op.Op.{Op}
use Rattle.record_base.specs.declared.message.Asked.{Asked}
use Rattle.record_base.specs.declared.message.Asked.TheVariants.{Ipmi, Pldm}
use Rattle.pldm_base.specs.Parts.{part_length}
use Rattle.bios_attr.specs.EntryParts.{most_entry, entry_in, set_part, is_in_parts, request_at, alone_at, part_at, get_part, goes_on, last_of}
use Rattle.record_kinds.specs.Series.{Series, Reads, sends, set_whole, next_after}
use Rattle.model_bus.specs.Addresses.{Addresses}
use Rattle.model_undo.specs.CleanSeries.{AreFinite}
use Rattle.model_lab.specs.ManagerWords.{from_manager, manager_words}

-- the series has no request behind so many replies
abbrev EndsBy : Series → ℕ → Type 0
EndsBy series most = (bodies : List (List ℕ)) → most ≤ length bodies → next_after series bodies ≡ None

-- no reply behind as many bytes as an entry has at most shows a part with others behind it
attribute_ends : (handle : ℕ) → EndsBy (Reads (key.BiosAttribute handle)) most_entry
attribute_ends handle bodies long = by (goes_on (length bodies) (last_of bodies)) refl
  where
    by : (t : Bool) → goes_on (length bodies) (last_of bodies) ≡ t → (if t then Some (get_part handle (part_length * length bodies)) else None) ≡ None
    by true e = absurd (omega (arith, long, ltb-true (part_length * length bodies) most_entry (and_parts _ _ (and_parts _ _ e).1).1))
    by false e = refl

reads_end : (k : Key) → (most : ℕ) × EndsBy (Reads k) most
reads_end (key.BiosAttribute handle) = (most_entry, attribute_ends handle)
reads_end _ = (0, λ bodies long. refl)

-- a part for each byte would be enough
alone_ends : (asked : Asked) (place : ℕ) → 1 ≤ place → alone_at asked place ≡ None
alone_ends asked place some = ap (λ (t : Bool). if t then Some asked else None) (not_first place some)
  where
    not_first : (n : ℕ) → 1 ≤ n → (n == 0) ≡ false
    not_first n some = grind (arith, nat_tests)

part_ends : (body : List ℕ) (place : ℕ) → length (entry_in body) ≤ place → part_at body place ≡ None
part_ends body place long =
    ap (λ (t : Bool). if t then Some (set_part (entry_in body) (part_length * place)) else None) (le-ltb (part_length * place) (length (entry_in body)) (omega (arith, long)))

request_ends : (asked : Asked) → (most : ℕ) × ((place : ℕ) → most ≤ place → request_at asked place ≡ None)
request_ends (Ipmi from net_fn lun command body) = (1, λ place long. alone_ends (Ipmi from net_fn lun command body) place long)
request_ends (Pldm from kind command body) = (1 + length (entry_in body), λ place long. by place long (is_in_parts (Pldm from kind command body)))
  where
    by : (place : ℕ) → 1 + length (entry_in body) ≤ place → (t : Bool) → (if t then option_map (Pldm from kind command) (part_at body place) else alone_at (Pldm from kind command body) place) ≡ None
    by place long true = ap (option_map (Pldm from kind command)) (part_ends body place (omega (arith, long)))
    by place long false = alone_ends (Pldm from kind command body) place (omega (arith, long))

sends_end : (o : Op) → (most : ℕ) × EndsBy (sends o) most
sends_end o = let ends = request_ends (set_whole o) in (ends.0, λ bodies long. ends.1 (length bodies) long)

pub are_finite : (at : Bus → Addresses) → AreFinite (manager_words at)
are_finite at series (inl is) =
    let ends = reads_end is.0 in
    (ends.0, λ bodies long. ap (option_map (from_manager at)) (ap (λ (s : Series). next_after s bodies) is.1 ∙ ends.1 bodies long))
are_finite at series (inr is) =
    let ends = sends_end is.0 in
    (ends.0, λ bodies long. ap (option_map (from_manager at)) (ap (λ (s : Series). next_after s bodies) is.1 ∙ ends.1 bodies long))

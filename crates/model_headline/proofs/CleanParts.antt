-- A Get and a Set are as many requests as an entry has parts.
use Rattle.std.proofs.Common.{◌≡◌, ℕ, ◌+◌, ◌*◌, ◌/◌, ◌<◌, ◌≤◌, Bool, true, false, cond, not, ◌&&◌, List, [], ◌∷◌, ◌++◌, length, Option, Some, None, refl, sym, ◌∙◌, ap, arith, length-append}
use Rattle.std.specs.Prelude.{◌==◌, nat_le, nat_lt}
use Rattle.std.specs.Option.{option_map}
use Rattle.std.proofs.lemmas.Bool.{and_parts}
use Rattle.std.proofs.lemmas.Bool.Decides.{nat_tests}
use Rattle.std.proofs.lemmas.Option.{none-some}
use Rattle.two_wire.specs.declared.Bus.{Bus}
use Rattle.record_base.specs.declared.message.Asked.{Asked}
use Rattle.record_base.specs.declared.message.Asked.TheVariants.{Ipmi, Pldm}
use Rattle.cfg_records.specs.declared.board_file.BoardFile.{BoardFile}
use Rattle.pldm_base.specs.Parts.{part_length, most_whole, goes_whole}
use Rattle.bios_attr.specs.EntryParts.{bios, set_current_value, start_and_end, entry_in, is_in_parts, set_part, part_at, request_at, alone_at}
use Rattle.record_base.specs.Requests.{byte_at}
use Rattle.record_kinds.specs.Series.{Series, Sends, next_after}
use Rattle.bmc_board.specs.State.{State}
use Rattle.model_bus.specs.Addresses.{Addresses}
use Rattle.model_undo.specs.Words.{IsNext}
use Rattle.model_undo.specs.Family.{Family}
use Rattle.model_undo.specs.CleanSeries.{SeriesAnswered, AnswersAll, RefusesOne}
use Rattle.model_lab.specs.ManagerWords.{from_manager}
use Rattle.model_lab.specs.Family.{family, answer}
use Rattle.model_headline.specs.CleanParts.{set_count}
use Rattle.model_headline.proofs.Series.{mapped, part_is}

-- ---- the last request of a series

none_mapped : {X Y : Type 0} (f : X → Y) (o : Option X) → option_map f o ≡ None → o ≡ None
none_mapped f None e = refl
none_mapped f (Some x) e = absurd (none-some (f x) (sym e))

module _ (setup : BoardFile) (at : Bus → Addresses) where
  abbrev F : Family
  F = family setup at

  -- the request that was answered last
  pub record WasNext (series : Series) (n : ℕ) : Type 0 where
    pub before : List (List ℕ)
    pub asked : Asked
    pub is_next : IsNext F.words series before asked
    pub count : length before + 1 ≡ n

  last_next : (series : Series) (before : List (List ℕ)) (body : List ℕ) (bodies : List (List ℕ)) (b c : State) → SeriesAnswered F (answer setup) series before (body ∷ bodies) b c → WasNext series (length before + length (body ∷ bodies))
  last_next series before body [] b c h = record { before = before; asked = h.0; is_next = h.1; count = refl }
  last_next series before body (other ∷ bodies) b c h =
      let rest = last_next series (before ++ body ∷ []) other bodies (answer setup b h.0).1 c h.3 in
      let long = length-append before (body ∷ []) in
      let same = rest.count in
      record { before = rest.before; asked = rest.asked; is_next = rest.is_next; count = omega (arith, same, long) }

  pub was_next : (series : Series) (bodies : List (List ℕ)) (b c : State) → AnswersAll F (answer setup) series bodies b c → WasNext series (length bodies)
  was_next series [] b c h = absurd (h.some refl)
  was_next series (body ∷ bodies) b c h =
      let w = last_next series [] body bodies b c h.replied in
      let same = w.count in
      record { before = w.before; asked = w.asked; is_next = w.is_next; count = omega (arith, same) }

  -- where no request comes behind the first, there is one
  pub alone_count : (series : Series) (n : ℕ) → ((body : List ℕ) (bodies : List (List ℕ)) → next_after series (body ∷ bodies) ≡ None) → WasNext series n → n ≡ 1
  alone_count series n none w = by w.before w.is_next w.count
    where
      by : (before : List (List ℕ)) → IsNext F.words series before w.asked → length before + 1 ≡ n → n ≡ 1
      by [] is count = sym count
      by (x ∷ xs) is count = absurd (none-some w.asked (sym (ap (option_map (from_manager at)) (none x xs)) ∙ is))

  -- and where it is refused, there is one too
  pub refused_alone : (series : Series) → ((body : List ℕ) (bodies : List (List ℕ)) → next_after series (body ∷ bodies) ≡ None) → (code n : ℕ) (b : State) → RefusesOne F (answer setup) series code n b → n ≡ 1
  refused_alone series none code n b h = alone_count series n none (record { before = h.bodies; asked = h.asked; is_next = h.is_next; count = sym h.counted })

-- ---- a Set

in_parts_long : (from kind command : ℕ) (body : List ℕ) → is_in_parts (Pldm from kind command body) ≡ true → most_whole < length (entry_in body)
in_parts_long from kind command body e =
    let long : not (goes_whole (entry_in body)) ≡ true = (and_parts (byte_at body 4 == start_and_end) _ (and_parts (kind == bios && command == set_current_value) _ e).1).1 in
    by (nat_le (length (entry_in body)) most_whole) refl long
  where
    by : (t : Bool) → nat_le (length (entry_in body)) most_whole ≡ t → not t ≡ true → most_whole < length (entry_in body)
    by true t e = absurd cc
    by false t e = grind (arith, nat_tests)

no_part : (body : List ℕ) (place : ℕ) → part_at body place ≡ None → length (entry_in body) ≤ part_length * place
no_part body place e = by (nat_lt (part_length * place) (length (entry_in body))) refl e
  where
    by : (t : Bool) → nat_lt (part_length * place) (length (entry_in body)) ≡ t → cond t (Some (set_part (entry_in body) (part_length * place))) None ≡ None → length (entry_in body) ≤ part_length * place
    by true t e = absurd (none-some _ (sym e))
    by false t e = grind (arith, nat_tests)

pub rounded_up : (size before n : ℕ) → before + 1 ≡ n → part_length * before < size → size ≤ part_length * n → n ≡ (size + 191) / 192
rounded_up size before n count above below = omega (arith, count, above, below)

pub count_long : (entry : List ℕ) (n : ℕ) → most_whole < length entry → n ≡ (length entry + 191) / 192 → n ≡ cond (goes_whole entry) 1 ((length entry + 191) / 192)
count_long entry n long is = let whole : goes_whole entry ≡ false = grind (arith, nat_tests) in is ∙ sym (ap (λ (t : Bool). cond t 1 ((length entry + 191) / 192)) whole)

pub alone_none : (asked : Asked) (place : ℕ) → 0 < place → alone_at asked place ≡ None
alone_none asked place later = let none : Option Asked = None in let is : (place == 0) ≡ false = grind (arith, nat_tests) in ap (λ (t : Bool). cond t (Some asked) none) is

module _ (setup : BoardFile) (at : Bus → Addresses) (from kind command : ℕ) (body : List ℕ) where
  abbrev whole : Asked
  whole = Pldm from kind command body

  abbrev at_place : ℕ → Bool → Option Asked
  at_place place t = cond t (option_map (Pldm from kind command) (part_at body place)) (alone_at whole place)

  parts_count : (n : ℕ) → is_in_parts whole ≡ true → WasNext setup at (Sends whole) n → request_at whole n ≡ None → n ≡ (length (entry_in body) + 191) / 192
  parts_count n parts w none = by w.before w.is_next w.count
    where
      long : most_whole < length (entry_in body)
      long = in_parts_long from kind command body parts

      below : length (entry_in body) ≤ part_length * n
      below = no_part body n (none_mapped (Pldm from kind command) (part_at body n) (sym (ap (at_place n) parts) ∙ none))

      by : (before : List (List ℕ)) → IsNext (family setup at).words (Sends whole) before w.asked → length before + 1 ≡ n → n ≡ (length (entry_in body) + 191) / 192
      by [] is count = omega (arith, long, below, count)
      by (x ∷ xs) is count =
          let place = length (x ∷ xs) in
          let raw = mapped (from_manager at) (next_after (Sends whole) (x ∷ xs)) w.asked is in
          let part = mapped (Pldm from kind command) (part_at body place) raw.0 (sym (ap (at_place place) parts) ∙ raw.1) in
          rounded_up (length (entry_in body)) place n count (part_is body place part.0 part.1).0 below

  pldm_count : (n : ℕ) → WasNext setup at (Sends whole) n → request_at whole n ≡ None → n ≡ set_count whole
  pldm_count n w none = by (is_in_parts whole) refl
    where
      by : (t : Bool) → is_in_parts whole ≡ t → n ≡ cond t (cond (goes_whole (entry_in body)) 1 ((length (entry_in body) + 191) / 192)) 1
      by true t = count_long (entry_in body) n (in_parts_long from kind command body t) (parts_count n t w none)
      by false t = alone_count setup at (Sends whole) n (λ b bs. ap (at_place (length (b ∷ bs))) t ∙ alone_none whole (length (b ∷ bs)) (omega arith)) w

sends_count : (setup : BoardFile) (at : Bus → Addresses) (asked : Asked) (n : ℕ) → WasNext setup at (Sends asked) n → request_at asked n ≡ None → n ≡ set_count asked
sends_count setup at (Ipmi from net_fn lun command body) n w none =
    alone_count setup at (Sends (Ipmi from net_fn lun command body)) n (λ b bs. alone_none (Ipmi from net_fn lun command body) (length (b ∷ bs)) (omega arith)) w
sends_count setup at (Pldm from kind command body) n w none = pldm_count setup at from kind command body n w none

pub set_counted : (setup : BoardFile) (at : Bus → Addresses) (asked : Asked) (bodies : List (List ℕ)) (b c : State) → AnswersAll (family setup at) (answer setup) (Sends asked) bodies b c → length bodies ≡ set_count asked
set_counted setup at asked bodies b c h =
    sends_count setup at asked (length bodies) (was_next setup at (Sends asked) bodies b c h) (none_mapped (from_manager at) (request_at asked (length bodies)) h.no_more)

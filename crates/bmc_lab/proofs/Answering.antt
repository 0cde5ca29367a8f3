-- A board answers one request more of a series.
use Rattle.std.proofs.Common.{◌≡◌, ℕ, ◌+◌, ◌*◌, ◌≤◌, List, [], ◌∷◌, ◌++◌, length, map, Bool, true, false, ◌&&◌, Option, Some, None, refl, sym, ◌∙◌, ap, subst, arith}
use Rattle.std.specs.Prelude.{if◌then◌else◌, drop}
use Rattle.std.specs.Option.{option_map}
use Rattle.std.proofs.lemmas.Bool.{le-ltb}
use Rattle.std.proofs.lemmas.List.{append-nil, append_assoc, map-append, length-map, length-append, length-drop}
use Rattle.two_wire.specs.Codes.{success}
use Rattle.record_base.specs.declared.key.Key.{Key}
use Rattle.record_base.specs.declared.op.Op.{Op}
use Rattle.record_base.specs.declared.message.Asked.{Asked}
use Rattle.record_base.specs.declared.message.Asked.TheVariants.{Ipmi, Pldm}
use Rattle.record_base.specs.declared.message.Answered.{Answered}
use Rattle.cfg_records.specs.declared.board_file.BoardFile.{BoardFile}
use Rattle.bios_attr.specs.EntryParts.{goes_on, last_of, is_in_parts, part_at, set_part, entry_in, request_at, with_body}
use Rattle.pldm_base.specs.Parts.{part_length}
use Rattle.record_kinds.specs.Limits.{set_asked, words}
use Rattle.record_kinds.specs.Series.{Series, Reads, sends, set_whole, next_after, get_next}
use Rattle.bmc_board.specs.Replies.{done}
use Rattle.bmc_board.specs.Row.{Row}
use Rattle.bmc_board.specs.State.{State}
use Rattle.bmc_lab.specs.Answers.{IsNextRequest, AnswersSome, AnswersAll, CarriesOutOp, body_of, next_behind}
use Rattle.bmc_board.proofs.SeriesFacts.{sets_begin}
use Rattle.bmc_lab.proofs.Parts.{last_alone, next_part}

-- behind those that it answered, the next one
one_more : (setup : BoardFile) (series : Series) (before bodies : List (List ℕ)) (at mid after : State) (asked : Asked) (body : List ℕ)
    → AnswersSome setup series before bodies at mid → IsNextRequest series (before ++ bodies) asked → Row setup mid asked (done body) after
    → AnswersSome setup series before (bodies ++ body ∷ []) at after
one_more setup series before [] at mid after asked body same next row =
    (asked, after, subst (λ (b : List (List ℕ)). IsNextRequest series b asked) (append-nil before) next, subst (λ (s : State). Row setup s asked (done body) after) same row, refl)
one_more setup series before (first ∷ bodies) at mid after asked body some next row = (
  some.0,
  some.1,
  some.2,
  some.3,
  one_more setup series (before ++ first ∷ []) bodies some.1 mid after asked body some.4
      (subst (λ (b : List (List ℕ)). IsNextRequest series b asked) (sym (append_assoc before (first ∷ []) bodies)) next) row,
)

-- it becomes what it is by a reply with 00h
pub answers_more : (setup : BoardFile) (series : Series) (bodies : List (List ℕ)) (at mid after : State) (asked : Asked) (reply : Answered)
    → AnswersSome setup series [] bodies at mid → IsNextRequest series bodies asked → Row setup mid asked reply after → reply.code ≡ success
    → AnswersSome setup series [] (bodies ++ reply.body ∷ []) at after
answers_more setup series bodies at mid after asked reply some next row well =
    one_more setup series [] bodies at mid after asked reply.body some next
    (subst (λ (r : Answered). Row setup mid asked r after) (λ i. record { code = well i; body = reply.body }) row)

-- the request behind some
pub is_next : (series : Series) (bodies : List (List ℕ)) (body : List ℕ) (asked : Asked) → next_after series (bodies ++ body ∷ []) ≡ Some asked → IsNextRequest series (bodies ++ body ∷ []) asked
is_next series [] body asked next = next
is_next series (first ∷ bodies) body asked next = next

not_empty : (b : List (List ℕ)) (body : List ℕ) → b ++ body ∷ [] ≡ [] → ⊥
not_empty [] body empty = cc
not_empty (first ∷ b) body empty = cc

-- where there is none, it answered all
pub answers_all : (setup : BoardFile) (series : Series) (bodies : List (List ℕ)) (body : List ℕ) (at after : State) → AnswersSome setup series [] (bodies ++ body ∷ []) at after
    → next_after series (bodies ++ body ∷ []) ≡ None → AnswersAll setup series (bodies ++ body ∷ []) at after
answers_all setup series bodies body at after some none = record { answered = some; some = not_empty bodies body; no_more = none }

-- ---- no Get has a seventh request

none_and : (b : Bool) → (b && false) ≡ false
none_and true = refl
none_and false = refl

none_both : (a b : Bool) → (a && (b && false)) ≡ false
none_both a b = ap (λ (x : Bool). a && x) (none_and b) ∙ none_and a

ends_there : (body : List ℕ) → goes_on 6 body ≡ false
ends_there body = none_both _ _

pub no_seventh : (key : Key) (bodies : List (List ℕ)) (asked : Asked) → length bodies ≡ 6 → next_after (Reads key) bodies ≡ Some asked → ⊥
no_seventh key bodies asked many next =
    let none : next_after (Reads key) bodies ≡ None =
    last_alone key bodies ∙ (λ i. next_behind key (many i) (last_of bodies)) ∙ (λ i. if ends_there (last_of bodies) i then get_next key (part_length * 6) else None) in
    let bad : None ≡ Some asked = sym none ∙ next in
    cc

-- ---- one reply more to a Get

-- the replies so far, as a loop has them: so many, by which the board became what it is, and the request that is open
abbrev pub GotSome : BoardFile → BoardFile → Key → List Answered → (n : ℕ) → (first mid : State) → Asked → Type 0
GotSome own setup key replies n first mid asked =
    (length replies ≡ n) × AnswersSome setup (Reads key) [] (map body_of replies) first mid × IsNextRequest (Reads key) (map body_of replies) asked × (own ≡ setup)

long_more : (replies : List Answered) (body : List ℕ) (n : ℕ) → length replies ≡ n → length (map body_of replies ++ body ∷ []) ≡ n + 1
long_more replies body n is = length-append (map body_of replies) (body ∷ []) ∙ ap (λ (m : ℕ). m + 1) (length-map replies body_of ∙ is)

one_long_more : (replies : List Answered) (reply : Answered) (n : ℕ) → length replies ≡ n → length (replies ++ reply ∷ []) ≡ n + 1
one_long_more replies reply n is = length-append replies (reply ∷ []) ∙ ap (λ (m : ℕ). m + 1) is

module _ (own setup : BoardFile) (key : Key) (replies now : List Answered) (n : ℕ) (first mid after : State) (asked : Asked) (reply : Answered) (shown : List ℕ) (next : Option Asked)
    (got : GotSome own setup key replies n first mid asked) (row : Row own mid asked reply after) (well : reply.code ≡ success) (is_shown : shown ≡ reply.body)
    (is_next_one : next ≡ next_behind key (n + 1) shown) (is_now : now ≡ replies ++ reply ∷ []) where
  now_bodies : map body_of now ≡ map body_of replies ++ reply.body ∷ []
  now_bodies = ap (map body_of) is_now ∙ map-append body_of replies (reply ∷ [])

  some : AnswersSome setup (Reads key) [] (map body_of replies ++ reply.body ∷ []) first after
  some = answers_more setup (Reads key) (map body_of replies) first mid after asked reply got.1 got.2 (subst (λ (s : BoardFile). Row s mid asked reply after) got.3 row) well

  then_next : next_after (Reads key) (map body_of replies ++ reply.body ∷ []) ≡ next
  then_next = next_part key (map body_of replies) reply.body (n + 1) (long_more replies reply.body n got.0) ∙ ap (next_behind key (n + 1)) (sym is_shown) ∙ sym is_next_one

  pub got_all : next ≡ None → AnswersAll setup (Reads key) (map body_of now) first after
  got_all none = subst (λ (b : List (List ℕ)). AnswersAll setup (Reads key) b first after) (sym now_bodies)
      (answers_all setup (Reads key) (map body_of replies) reply.body first after some (then_next ∙ none))

  pub got_more : (open_one : Asked) → next ≡ Some open_one → own ≡ setup → GotSome own setup key now (n + 1) first after open_one
  got_more open_one is same = (
    ap (λ (l : List Answered). length l) is_now ∙ one_long_more replies reply n got.0,
    subst (λ (b : List (List ℕ)). AnswersSome setup (Reads key) [] b first after) (sym now_bodies) some,
    subst (λ (b : List (List ℕ)). IsNextRequest (Reads key) b open_one) (sym now_bodies) (is_next (Reads key) (map body_of replies) reply.body open_one (then_next ∙ is)),
    same,
  )

-- a request that is open behind some replies is the next one
open_behind : (series : Series) (bodies : List (List ℕ)) (asked : Asked) → length bodies ≡ 6 → IsNextRequest series bodies asked → next_after series bodies ≡ Some asked
open_behind series [] asked many next = absurd (omega (arith, many))
open_behind series (body ∷ bodies) asked many next = next

pub got_never : (own setup : BoardFile) (key : Key) (replies : List Answered) (n : ℕ) (first mid : State) (asked : Asked) → GotSome own setup key replies n first mid asked → n ≡ 6 → ⊥
got_never own setup key replies n first mid asked got six =
    let many : length (map body_of replies) ≡ 6 = length-map replies body_of ∙ got.0 ∙ six in
    no_seventh key (map body_of replies) asked many (open_behind (Reads key) (map body_of replies) asked many got.2)

-- ---- one reply more to a Set

-- no Set has a seventh request
no_part : (data_bytes : List ℕ) → length data_bytes ≤ 1040 → part_at data_bytes 6 ≡ None
no_part data_bytes few =
    let short : length (drop 5 data_bytes) ≤ 1152 = omega (arith, few, length-drop 5 data_bytes) in
    λ i. if le-ltb 1152 (length (drop 5 data_bytes)) short i then Some (set_part (entry_in data_bytes) 1152) else None

both_none : (b : Bool) (f : List ℕ → Asked) (o : Option (List ℕ)) → o ≡ None → (if b then option_map f o else None) ≡ None
both_none true f o is = ap (option_map f) is
both_none false f o is = refl

no_more_sent : (asked : Asked) (data_bytes : List ℕ) → length data_bytes ≤ 1040 → request_at (with_body asked data_bytes) 6 ≡ None
no_more_sent (Ipmi from net_fn lun command body) data_bytes few = refl
no_more_sent (Pldm from kind command body) data_bytes few =
    both_none (is_in_parts (Pldm from kind command data_bytes)) (Pldm from kind command) (part_at data_bytes 6) (no_part data_bytes few)

-- the replies so far to an operation's Set
abbrev pub SetSome : BoardFile → BoardFile → Op → (n : ℕ) → (first mid : State) → Asked → Type 0
SetSome own setup op n first mid asked =
    ((bodies : List (List ℕ)) × (length bodies ≡ n) × AnswersSome setup (sends op) [] bodies first mid × IsNextRequest (sends op) bodies asked) × (own ≡ setup)

pub set_none : (own setup : BoardFile) (op : Op) (at : State) (asked : Asked) → own ≡ setup → asked ≡ set_asked op → SetSome own setup op 0 at at asked
set_none own setup op at asked same is = (([], refl, refl, (sets_begin op).first ∙ sym is), same)

module _ (own setup : BoardFile) (op : Op) (n : ℕ) (first mid after : State) (asked : Asked) (reply : Answered) (next : Option Asked)
    (set : SetSome own setup op n first mid asked) (row : Row own mid asked reply after) (well : reply.code ≡ success) (is_next_one : next ≡ request_at (set_whole op) (n + 1)) where
  set_long : length (set.0.0 ++ reply.body ∷ []) ≡ n + 1
  set_long = length-append set.0.0 (reply.body ∷ []) ∙ ap (λ (m : ℕ). m + 1) set.0.1

  set_done : AnswersSome setup (sends op) [] (set.0.0 ++ reply.body ∷ []) first after
  set_done = answers_more setup (sends op) set.0.0 first mid after asked reply set.0.2 set.0.3 (subst (λ (s : BoardFile). Row s mid asked reply after) set.1 row) well

  set_then : next_after (sends op) (set.0.0 ++ reply.body ∷ []) ≡ next
  set_then = ap (request_at (set_whole op)) set_long ∙ sym is_next_one

  pub set_all : next ≡ None → CarriesOutOp setup op first after
  set_all none = (set.0.0 ++ reply.body ∷ [], answers_all setup (sends op) set.0.0 reply.body first after set_done (set_then ∙ none))

  pub set_more : (now : BoardFile) (open_one : Asked) → next ≡ Some open_one → now ≡ setup → SetSome now setup op (n + 1) first after open_one
  set_more now open_one is same =
      ((set.0.0 ++ reply.body ∷ [], set_long, set_done, is_next (sends op) set.0.0 reply.body open_one (set_then ∙ is)), same)

pub set_never : (own setup : BoardFile) (op : Op) (n : ℕ) (first mid : State) (asked : Asked) → SetSome own setup op n first mid asked → n ≡ 6 → length (words.set_data op) ≤ 1040 → ⊥
set_never own setup op n first mid asked set six few =
    let bad : None ≡ Some asked =
    sym (no_more_sent (set_asked op) (words.set_data op) few) ∙ ap (request_at (set_whole op)) (sym (set.0.1 ∙ six)) ∙ open_behind (sends op) set.0.0 asked (set.0.1 ∙ six) set.0.3 in
    cc

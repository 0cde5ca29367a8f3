-- Each effect on a bus keeps the manager's requests in order.
use Rattle.std.proofs.Common.{◌≡◌, ℕ, ◌+◌, List, [], ◌∷◌, ◌++◌, length, Some, None, sym, ◌∙◌, ap, subst, arith, ◌⊎◌, inl, inr}
use Rattle.std.specs.Prelude.{slice_get}
use Rattle.std.proofs.lemmas.Option.{slice_get_within, slice_get_past}
use Rattle.two_wire.specs.declared.Bus.{Bus}
use Rattle.model_bus.specs.Request.{Kept}
use Rattle.model_bus.specs.BusState.{BusState}
use Rattle.model_bus.specs.Effect.{IsKeptFor, SameRequests, BeginsRequest, CarriesOpen, TakesReply}
use Rattle.model_bus.proofs.Lists.{at_end, one_more, length_more}
use Rattle.model_bus.specs.Answered.{Answered}
use Rattle.model_undo.specs.Family.{Family}
use Rattle.model_undo.specs.Wires.{Wires}
use Rattle.model_undo.proofs.Undoable.{past_none}
use Rattle.model_undo.specs.Joined.{IsClosed, request_bytes, IsWritten, KeptAnswers, Orderly, answer_in, answer_on}

-- an open request isn't answered
pub not_closed : (s : BusState) (bytes : List ℕ) → IsClosed s → slice_get s.begun (length s.taken) ≡ Some bytes → ⊥
not_closed s bytes le e = let within = slice_get_within s.begun (length s.taken) bytes e in omega arith

-- where no request moves, none is opened
pub closed_still : (old new : BusState) → SameRequests old new → IsClosed old → IsClosed new
closed_still old new same le =
    let b : length new.begun ≡ length old.begun = ap (λ (x : List (List ℕ)). length x) same.begun in
    let t : length new.taken ≡ length old.taken = ap (λ (x : List (List ℕ)). length x) same.taken in
    omega arith

module _ (F : Family) (W : Wires F.words) (first : Bus → ℕ) (bus : Bus) where
  abbrev Ordered : BusState → Type 0
  Ordered = Orderly F W first bus

  pub orderly_still : (old new : BusState) → Ordered old → SameRequests old new → Ordered new
  orderly_still old new h same =
      let b : length new.begun ≡ length old.begun = ap (λ (x : List (List ℕ)). length x) same.begun in
      let c : length new.carried ≡ length old.carried = ap (λ (x : List Kept). length x) same.carried in
      let t : length new.taken ≡ length old.taken = ap (λ (x : List (List ℕ)). length x) same.taken in
      let answered = h.answered in let below = h.below in let one_open = h.one_open in
      record {
        answered = omega arith;
        below = omega arith;
        one_open = omega arith;
        written = λ n bytes e. h.written n bytes (ap (λ (x : List (List ℕ)). slice_get x n) (sym same.begun) ∙ e);
        replied = λ n k e. h.replied n k (ap (λ (x : List Kept). slice_get x n) (sym same.carried) ∙ e);
      }

  pub orderly_begun : (old new : BusState) (asked : F.words.Asked) → F.words.bus_of asked ≡ bus → Ordered old → BeginsRequest old new (request_bytes F W first bus (length old.begun) asked) → Ordered new
  orderly_begun old new asked on h e =
      let bytes = request_bytes F W first bus (length old.begun) asked in
      let b : length new.begun ≡ length old.begun + 1 = ap (λ (x : List (List ℕ)). length x) e.begun ∙ length_more old.begun bytes in
      let c : length new.carried ≡ length old.carried = ap (λ (x : List Kept). length x) e.carried in
      let t : length new.taken ≡ length old.taken = ap (λ (x : List (List ℕ)). length x) e.taken in
      let answered = h.answered in let below = h.below in let closed = e.none_open in
      record {
        answered = omega arith;
        below = omega arith;
        one_open = omega arith;
        written = λ n any at. go n any (one_more old.begun bytes n any (ap (λ (x : List (List ℕ)). slice_get x n) (sym e.begun) ∙ at));
        replied = λ n k at. h.replied n k (ap (λ (x : List Kept). slice_get x n) (sym e.carried) ∙ at);
      }
    where
      go : (n : ℕ) (any : List ℕ) → (slice_get old.begun n ≡ Some any) ⊎ ((n ≡ length old.begun) × (request_bytes F W first bus (length old.begun) asked ≡ any)) → IsWritten F W first bus n any
      go n any (inl before) = h.written n any before
      go n any (inr (is, same)) = record { asked = asked; on = on; spelled = sym same ∙ ap (λ (m : ℕ). request_bytes F W first bus m asked) (sym is) }

  pub orderly_carried : (old new : BusState) (bytes : List ℕ) (a : Answered) → Ordered old → CarriesOpen old new bytes (W.reply_to bus bytes a) → Ordered new
  orderly_carried old new bytes a h e =
      let k = e.carried.0 in
      let b : length new.begun ≡ length old.begun = ap (λ (x : List (List ℕ)). length x) e.begun in
      let c : length new.carried ≡ length old.carried + 1 = ap (λ (x : List Kept). length x) e.carried.1 ∙ length_more old.carried k in
      let t : length new.taken ≡ length old.taken = ap (λ (x : List (List ℕ)). length x) e.taken in
      let answered = h.answered in let below = h.below in let one_open = h.one_open in
      let within = slice_get_within old.begun (length old.taken) bytes e.opened in
      let none = past_none old.carried (length old.taken) e.first in
      record {
        answered = omega arith;
        below = omega arith;
        one_open = omega arith;
        written = λ n any at. h.written n any (ap (λ (x : List (List ℕ)). slice_get x n) (sym e.begun) ∙ at);
        replied = λ n any at. go n any (one_more old.carried k n any (ap (λ (x : List Kept). slice_get x n) (sym e.carried.1) ∙ at));
      }
    where
      go : (n : ℕ) (any : Kept) → (slice_get old.carried n ≡ Some any) ⊎ ((n ≡ length old.carried) × (e.carried.0 ≡ any)) → KeptAnswers F W first bus any
      go n any (inl before) = h.replied n any before
      go n any (inr (is, same)) = subst (KeptAnswers F W first bus) same (record { answered = a; spelled = e.carried.3 ∙ ap (λ (x : List ℕ). W.reply_to bus x a) (sym e.carried.2) })

  pub orderly_taken : (old new : BusState) (reply : List ℕ) → Ordered old → TakesReply old new reply → Ordered new
  orderly_taken old new reply h e =
      let b : length new.begun ≡ length old.begun = ap (λ (x : List (List ℕ)). length x) e.begun in
      let c : length new.carried ≡ length old.carried = ap (λ (x : List Kept). length x) e.carried in
      let t : length new.taken ≡ length old.taken + 1 = ap (λ (x : List (List ℕ)). length x) e.taken ∙ length_more old.taken reply in
      let below = h.below in let one_open = h.one_open in
      let within = slice_get_within old.carried (length old.taken) e.kept.kept e.kept.at in
      record {
        answered = omega arith;
        below = omega arith;
        one_open = omega arith;
        written = λ n any at. h.written n any (ap (λ (x : List (List ℕ)). slice_get x n) (sym e.begun) ∙ at);
        replied = λ n k at. h.replied n k (ap (λ (x : List Kept). slice_get x n) (sym e.carried) ∙ at);
      }

  -- nothing is open any more
  pub closed_taken : (old new : BusState) (reply : List ℕ) → Ordered old → TakesReply old new reply → IsClosed new
  closed_taken old new reply h e =
      let b : length new.begun ≡ length old.begun = ap (λ (x : List (List ℕ)). length x) e.begun in
      let t : length new.taken ≡ length old.taken + 1 = ap (λ (x : List (List ℕ)). length x) e.taken ∙ length_more old.taken reply in
      let one_open = h.one_open in
      omega arith

  -- ---- the answer that is kept for the open request

  pub answer_still : (old new : BusState) → SameRequests old new → answer_on F W first bus new ≡ answer_on F W first bus old
  answer_still old new same =
      ap (λ (ks : List Kept). answer_in F W first bus (slice_get ks (length new.taken))) same.carried
      ∙ ap (λ (ts : List (List ℕ)). answer_in F W first bus (slice_get old.carried (length ts))) same.taken

  pub answer_kept : (s : BusState) (reply : List ℕ) → IsKeptFor s.carried (length s.taken) reply → answer_on F W first bus s ≡ Some (W.answered_from bus reply)
  answer_kept s reply kept = ap (answer_in F W first bus) kept.at ∙ ap (λ (r : List ℕ). Some (W.answered_from bus r)) kept.replied

  pub answer_carried : (old new : BusState) (bytes : List ℕ) (a : Answered) → CarriesOpen old new bytes (W.reply_to bus bytes a) → answer_on F W first bus new ≡ Some a
  answer_carried old new bytes a e =
      ap (λ (ts : List (List ℕ)). answer_in F W first bus (slice_get new.carried (length ts))) e.taken
      ∙ ap (answer_in F W first bus) e.kept.at ∙ ap (λ (r : List ℕ). Some (W.answered_from bus r)) e.kept.replied ∙ ap (λ (x : Answered). Some x) (W.same_reply bus bytes a)

  pub answer_begun : (old new : BusState) (bytes : List ℕ) → Ordered old → BeginsRequest old new bytes → answer_on F W first bus new ≡ None
  answer_begun old new bytes h e =
      let below = h.below in let closed = e.none_open in
      ap (λ (ks : List Kept). answer_in F W first bus (slice_get ks (length new.taken))) e.carried
      ∙ ap (λ (x : List (List ℕ)). answer_in F W first bus (slice_get old.carried (length x))) e.taken
      ∙ ap (answer_in F W first bus) (slice_get_past old.carried (length old.taken) (omega arith))

  -- ---- the open request

  pub open_still : (old new : BusState) (asked : F.words.Asked) → SameRequests old new → slice_get old.begun (length old.taken) ≡ Some (request_bytes F W first bus (length old.taken) asked)
      → slice_get new.begun (length new.taken) ≡ Some (request_bytes F W first bus (length new.taken) asked)
  open_still old new asked same e =
      ap (λ (x : List (List ℕ)). slice_get x (length new.taken)) same.begun
      ∙ ap (λ (x : List (List ℕ)). slice_get old.begun (length x)) same.taken ∙ e ∙ ap (λ (x : List (List ℕ)). Some (request_bytes F W first bus (length x) asked)) (sym same.taken)

  pub open_begun : (old new : BusState) (asked : F.words.Asked) → BeginsRequest old new (request_bytes F W first bus (length old.begun) asked)
      → slice_get new.begun (length new.taken) ≡ Some (request_bytes F W first bus (length new.taken) asked)
  open_begun old new asked e =
      let bytes = request_bytes F W first bus (length old.begun) asked in
      let t : length new.taken ≡ length old.begun = ap (λ (x : List (List ℕ)). length x) e.taken ∙ e.none_open in
      ap (λ (x : List (List ℕ)). slice_get x (length new.taken)) e.begun ∙ ap (slice_get (old.begun ++ bytes ∷ [])) t ∙ at_end old.begun bytes
      ∙ ap (λ (n : ℕ). Some (request_bytes F W first bus n asked)) (sym t)

  pub open_carried : (old new : BusState) (bytes reply : List ℕ) (asked : F.words.Asked) → CarriesOpen old new bytes reply → slice_get old.begun (length old.taken) ≡ Some (request_bytes F W first bus (length old.taken) asked)
      → slice_get new.begun (length new.taken) ≡ Some (request_bytes F W first bus (length new.taken) asked)
  open_carried old new bytes reply asked c e =
      ap (λ (x : List (List ℕ)). slice_get x (length new.taken)) c.begun
      ∙ ap (λ (x : List (List ℕ)). slice_get old.begun (length x)) c.taken ∙ e ∙ ap (λ (x : List (List ℕ)). Some (request_bytes F W first bus (length x) asked)) (sym c.taken)

-- The lists of begun and of carried requests only grow.
use Rattle.std.proofs.Common.{◌≡◌, ℕ, ◌<◌, List, [], ◌∷◌, length, Option, Some, None, ◌∙◌, ap, refl}
use Rattle.std.specs.Prelude.{slice_get}
use Rattle.std.proofs.lemmas.Bool.{cond_both}
use Rattle.std.proofs.lemmas.Option.{none-some, slice_get_within}
use Rattle.model_bus.specs.Request.{Kept}
use Rattle.model_bus.specs.Carried.{Outcome, Repeats, IsBusy, IsNew, outcome, carried_after}
use Rattle.model_bus.specs.Numbering.{Rules}
use Rattle.model_bus.specs.BusState.{BusState, Frame, Content, Ask, Reply, Event, Begins, SendsAgain, ReachesPort, ReachesManager, OtherAsks, IsIdle, Resumes, request_of, is_open, begins, sends_again, comes, taken_now, taken_from, OtherReplies, takes_if, at_port, happens}
use Rattle.model_bus.proofs.Lists.{Grows, grows}

-- what was begun and carried stands where it stood
pub record BusGrows (old new : BusState) : Type 0 where
  pub begun : Grows old.begun new.begun
  pub carried : Grows old.carried new.carried

pub stays : (s : BusState) → BusGrows s s
stays s = record { begun = λ n x e. e; carried = λ n x e. e }

pub carried_grows : (o : Outcome) (k : Kept) (ks : List Kept) → Grows ks (carried_after o k ks)
carried_grows (Repeats reply) k ks = λ n x e. e
carried_grows IsBusy k ks = λ n x e. e
carried_grows IsNew k ks = grows ks (k ∷ [])

module _ (b : Rules) where
  pub comes_grow : (answer : List ℕ) (n : ℕ) (c : Content) (s : BusState) → BusGrows s (comes b answer n c s)
  comes_grow answer n (Ask bytes) s = record { begun = λ n x e. e; carried = carried_grows (outcome b.is_above (request_of b n bytes) s.log) (record { request = request_of b n bytes; reply = answer }) s.carried }
  comes_grow answer n (Reply number reply) s = stays s

  pub at_port_grows : (answer : List ℕ) (o : Option Frame) (s : BusState) → BusGrows s (at_port b answer o s)
  at_port_grows answer None s = stays s
  at_port_grows answer (Some f) s = comes_grow answer f.request f.content s

  pub takes_grow : (o : Option (List ℕ)) (s : BusState) → BusGrows s (takes_if o s)
  takes_grow None s = stays s
  takes_grow (Some reply) s = record { begun = λ n x e. e; carried = λ n x e. e }

  pub again_grows : (o : Option (List ℕ)) (s : BusState) → BusGrows s (sends_again b o s)
  again_grows None s = stays s
  again_grows (Some bytes) s = record { begun = λ n x e. e; carried = λ n x e. e }

  pub happens_grows : (s : BusState) (e : Event) → BusGrows s (happens b s e)
  happens_grows s (Begins bytes) =
      cond_both (is_open s) s (begins b bytes s) (BusGrows s) (λ _. stays s) (λ _. record { begun = grows s.begun (bytes ∷ []); carried = λ n x e. e })
  happens_grows s SendsAgain = again_grows (slice_get s.begun (length s.taken)) s
  happens_grows s (ReachesPort which answer) = at_port_grows answer (slice_get s.frames which) s
  happens_grows s (ReachesManager which) = takes_grow (taken_now b (slice_get s.frames which) s) s
  happens_grows s (OtherAsks request answer) = record { begun = λ n x e. e; carried = λ n x e. e }
  happens_grows s (OtherReplies source number reply) = takes_grow (taken_from b source number reply s) s
  happens_grows s (IsIdle requester) = record { begun = λ n x e. e; carried = λ n x e. e }
  happens_grows s Resumes = stays s

-- the message of a request, and the reply that is kept for one
abbrev pub begun_at : BusState → ℕ → Option (List ℕ)
begun_at s n = slice_get s.begun n

-- the reply, if there is a kept request
abbrev pub reply_at : Option Kept → Option (List ℕ)
reply_at None = None
reply_at (Some k) = Some k.reply

-- the reply that is kept for a request
abbrev pub kept_at : BusState → ℕ → Option (List ℕ)
kept_at s n = reply_at (slice_get s.carried n)

-- what the one has the other has
abbrev pub Within : (ℕ → Option (List ℕ)) → (ℕ → Option (List ℕ)) → Type 0
Within old new = (n : ℕ) (bytes : List ℕ) → old n ≡ Some bytes → new n ≡ Some bytes

reply_grows : (ks more : List Kept) → Grows ks more → (n : ℕ) (reply : List ℕ) (o : Option Kept) → slice_get ks n ≡ o → reply_at o ≡ Some reply → reply_at (slice_get more n) ≡ Some reply
reply_grows ks more g n reply None at e = absurd (none-some reply e)
reply_grows ks more g n reply (Some k) at e = ap reply_at (g n k at) ∙ e

pub reply_within : (ks : List Kept) (n : ℕ) (reply : List ℕ) (o : Option Kept) → slice_get ks n ≡ o → reply_at o ≡ Some reply → n < length ks
reply_within ks n reply None at e = absurd (none-some reply e)
reply_within ks n reply (Some k) at e = slice_get_within ks n k at

pub kept_within : (old new : BusState) → BusGrows old new → Within (kept_at old) (kept_at new)
kept_within old new g n reply e = reply_grows old.carried new.carried g.carried n reply (slice_get old.carried n) refl e

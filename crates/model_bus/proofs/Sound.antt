-- What holds of a bus at every event of an honest schedule, and how each step keeps it.
use Rattle.std.proofs.Common.{◌≡◌, ℕ, ◌+◌, ◌<◌, ◌≤◌, List, [], ◌∷◌, ◌++◌, length, Option, Some, None, refl, sym, ◌∙◌, ap, subst, arith, inl, inr}
use Rattle.std.specs.Prelude.{slice_get}
use Rattle.std.proofs.lemmas.Bool.{eq-eqb, ne_eqb}
use Rattle.std.proofs.lemmas.Option.{slice_get_within}
use Rattle.model_bus.specs.Request.{Kept, Entry, Carried, Idled, carried_since, idles_of}
use Rattle.model_bus.specs.Numbering.{Rules}
use Rattle.model_bus.specs.BusState.{request_of, Content, Ask, Reply, Frame}
use Rattle.model_bus.specs.Effect.{IsKeptFor}
use Rattle.model_bus.proofs.Lists.{Grows, grows, at_end, one_more, length_more}
use Rattle.model_bus.proofs.NumberLaws.{IsNumbering}
use Rattle.model_bus.proofs.Repeats.{InOrder, IsRun, IsSince}

pub IsRun-grows : (carried more : List Kept) → Grows carried more → (low : ℕ) (ks : List Kept) (high : ℕ) → IsRun carried low ks high → IsRun more low ks high
IsRun-grows carried more g low [] high r = r
IsRun-grows carried more g low (k ∷ ks) high (n, e, at, rest) = (n, e, g n k at, IsRun-grows carried more g low ks n rest)

-- what the log shows of the manager's window
pub record Seen : Type 0 where
  pub since : List Kept
  pub idles : ℕ

-- what a log shows of it
abbrev pub seen : ℕ → List Entry → Seen
seen q log = record { since = carried_since q log; idles = idles_of q log }

pub seen-mine : (q : ℕ) (k : Kept) (log : List Entry) → k.request.requester ≡ q → seen q (Carried k ∷ log) ≡ record { since = k ∷ carried_since q log; idles = idles_of q log }
seen-mine q k log e = rw (eq-eqb k.request.requester q e) refl

pub seen-other : (q : ℕ) (k : Kept) (log : List Entry) → (k.request.requester ≡ q → ⊥) → seen q (Carried k ∷ log) ≡ seen q log
seen-other q k log e = rw (ne_eqb k.request.requester q e) refl

pub seen-idle : (q p : ℕ) (log : List Entry) → p ≡ q → seen q (Idled p ∷ log) ≡ record { since = []; idles = idles_of q log + 1 }
seen-idle q p log e = rw (eq-eqb p q e) refl

pub seen-idle_other : (q p : ℕ) (log : List Entry) → (p ≡ q → ⊥) → seen q (Idled p ∷ log) ≡ seen q log
seen-idle_other q p log e = rw (ne_eqb p q e) refl

-- a frame's content is of its request
abbrev pub Fits : Rules → List (List ℕ) → List Kept → ℕ → Content → Type 0
Fits b begun carried n (Ask bytes) = slice_get begun n ≡ Some bytes
Fits b begun carried n (Reply number None) = number ≡ b.number_of n
Fits b begun carried n (Reply number (Some reply)) = (number ≡ b.number_of n) × IsKeptFor carried n reply

-- a frame that was sent: since the manager's window was forgotten, no frame of a request below the floor
pub record IsSent (b : Rules) (floor : ℕ) (begun : List (List ℕ)) (carried : List Kept) (idles : ℕ) (f : Frame) : Type 0 where
  pub earlier : f.idles ≤ idles
  pub floor_below : f.idles ≡ idles → floor ≤ f.request
  pub fits : Fits b begun carried f.request f.content

-- every frame is one that was sent so
abbrev pub AllSent : Rules → ℕ → List (List ℕ) → List Kept → ℕ → List Frame → Type 0
AllSent b floor begun carried idles frames = (i : ℕ) (f : Frame) → slice_get frames i ≡ Some f → IsSent b floor begun carried idles f

-- the invariant: what the manager's window holds are the carried requests from the floor on, newest first, over what a start left
pub record Sound (b : Rules) (floor : ℕ) (begun : List (List ℕ)) (carried : List Kept) (taken : List (List ℕ)) (s : Seen) (sent_frames : List Frame) : Type 0 where
  pub in_order : InOrder b begun carried
  pub replied : (n : ℕ) (reply : List ℕ) → slice_get taken n ≡ Some reply → IsKeptFor carried n reply
  pub since : IsSince b carried floor s.since
  pub floor_taken : floor ≤ length taken
  pub answered : length taken ≤ length carried
  pub below : length carried ≤ length begun
  pub one_open : length begun ≤ length taken + 1
  pub frames : AllSent b floor begun carried s.idles sent_frames

pub IsKeptFor-grows : (carried more : List Kept) → Grows carried more → (n : ℕ) (reply : List ℕ) → IsKeptFor carried n reply → IsKeptFor more n reply
IsKeptFor-grows carried more g n reply h = record { kept = h.kept; at = g n h.kept h.at; replied = h.replied }

pub Fits-grows : (b : Rules) (begun begun' : List (List ℕ)) (carried more : List Kept) → Grows begun begun' → Grows carried more → (n : ℕ) (c : Content) → Fits b begun carried n c → Fits b begun' more n c
Fits-grows b begun begun' carried more g h n (Ask bytes) e = g n bytes e
Fits-grows b begun begun' carried more g h n (Reply number None) e = e
Fits-grows b begun begun' carried more g h n (Reply number (Some reply)) e = (e.0, IsKeptFor-grows carried more h n reply e.1)

pub AllSent-grows : (b : Rules) (floor : ℕ) (begun begun' : List (List ℕ)) (carried more : List Kept) (idles : ℕ) (frames : List Frame) → Grows begun begun' → Grows carried more → AllSent b floor begun carried idles frames → AllSent b floor begun' more idles frames
AllSent-grows b floor begun begun' carried more idles frames g h all i f at =
    let s = all i f at in
    record { earlier = s.earlier; floor_below = s.floor_below; fits = Fits-grows b begun begun' carried more g h f.request f.content s.fits }

pub AllSent-push : (b : Rules) (floor : ℕ) (begun : List (List ℕ)) (carried : List Kept) (idles : ℕ) (frames : List Frame) (g : Frame) → AllSent b floor begun carried idles frames → IsSent b floor begun carried idles g → AllSent b floor begun carried idles (frames ++ g ∷ [])
AllSent-push b floor begun carried idles frames g all new i f at =
    elim (one_more frames g i f at) [ inl h ↦ all i f h | inr h ↦ subst (IsSent b floor begun carried idles) h.1 new ]

module _ (b : Rules) (numbers : IsNumbering b) where
  -- the manager begins a request
  pub sound_begins : (floor : ℕ) (begun : List (List ℕ)) (carried : List Kept) (taken : List (List ℕ)) (s : Seen) (frames : List Frame) (bytes : List ℕ) → Sound b floor begun carried taken s frames → length begun ≤ length taken
      → Sound b floor (begun ++ bytes ∷ []) carried taken s (frames ++ record { request = length begun; idles = s.idles; content = Ask bytes } ∷ [])
  sound_begins floor begun carried taken s frames bytes h closed =
      let more = length_more begun bytes in
      let floor_taken = h.floor_taken in let answered = h.answered in let below = h.below in let one_open = h.one_open in
      let g = grows begun (bytes ∷ []) in
      record {
        in_order = λ n k at. (g n _ (h.in_order n k at).0, (h.in_order n k at).1);
        replied = h.replied;
        since = h.since;
        floor_taken = h.floor_taken;
        answered = h.answered;
        below = omega arith;
        one_open = omega arith;
        frames = AllSent-push b floor _ carried s.idles frames _ (AllSent-grows b floor begun _ carried carried s.idles frames g (λ n k at. at) h.frames)
            (record { earlier = omega arith; floor_below = λ e. omega arith; fits = at_end begun bytes });
      }

  -- it sends the open one again
  pub sound_again : (floor : ℕ) (begun : List (List ℕ)) (carried : List Kept) (taken : List (List ℕ)) (s : Seen) (frames : List Frame) (bytes : List ℕ) → Sound b floor begun carried taken s frames → slice_get begun (length taken) ≡ Some bytes
      → Sound b floor begun carried taken s (frames ++ record { request = length taken; idles = s.idles; content = Ask bytes } ∷ [])
  sound_again floor begun carried taken s frames bytes h at =
      record {
        in_order = h.in_order;
        replied = h.replied;
        since = h.since;
        floor_taken = h.floor_taken;
        answered = h.answered;
        below = h.below;
        one_open = h.one_open;
        frames = AllSent-push b floor begun carried s.idles frames _ h.frames
            (record { earlier = omega arith; floor_below = λ e. h.floor_taken; fits = at });
      }

  -- a reply frame is sent
  pub sound_reply : (floor : ℕ) (begun : List (List ℕ)) (carried : List Kept) (taken : List (List ℕ)) (s : Seen) (frames : List Frame) (n : ℕ) (reply : Option (List ℕ)) → Sound b floor begun carried taken s frames → floor ≤ n → Fits b begun carried n (Reply (b.number_of n) reply)
      → Sound b floor begun carried taken s (frames ++ record { request = n; idles = s.idles; content = Reply (b.number_of n) reply } ∷ [])
  sound_reply floor begun carried taken s frames n reply h above fits =
      record {
        in_order = h.in_order;
        replied = h.replied;
        since = h.since;
        floor_taken = h.floor_taken;
        answered = h.answered;
        below = h.below;
        one_open = h.one_open;
        frames = AllSent-push b floor begun carried s.idles frames _ h.frames
            (record { earlier = omega arith; floor_below = λ e. above; fits = fits });
      }

  -- the newest request is carried out
  pub sound_carried : (floor : ℕ) (begun : List (List ℕ)) (carried : List Kept) (taken : List (List ℕ)) (s : Seen) (frames : List Frame) (k : Kept) → Sound b floor begun carried taken s frames
      → slice_get begun (length carried) ≡ Some k.request.bytes → k.request ≡ request_of b (length carried) k.request.bytes
      → Sound b floor begun (carried ++ k ∷ []) taken (record { since = k ∷ s.since; idles = s.idles }) frames
  sound_carried floor begun carried taken s frames k h at is =
      let more = length_more carried k in
      let within = slice_get_within begun (length carried) _ at in
      let answered = h.answered in
      let g = grows carried (k ∷ []) in
      record {
        in_order = λ n x here. elim (one_more carried k n x here) [
          | inl old ↦ h.in_order n x old
          | inr new ↦ subst (λ (x : Kept). (slice_get begun n ≡ Some x.request.bytes) × (x.request ≡ request_of b n x.request.bytes)) new.1
              (subst (λ (n : ℕ). (slice_get begun n ≡ Some k.request.bytes) × (k.request ≡ request_of b n k.request.bytes)) (sym new.0) (at, is))
        ];
        replied = λ n reply t. IsKeptFor-grows carried _ g n reply (h.replied n reply t);
        since = record {
          newer = k ∷ h.since.newer;
          older = h.since.older;
          whole = ap (λ (ks : List Kept). k ∷ ks) h.since.whole;
          run = (length carried, omega arith, at_end carried k, IsRun-grows carried _ g floor h.since.newer (length carried) h.since.run);
          behind = h.since.behind;
        };
        floor_taken = h.floor_taken;
        answered = omega arith;
        below = omega arith;
        one_open = h.one_open;
        frames = AllSent-grows b floor begun begun carried _ s.idles frames (λ n x e. e) g h.frames;
      }

  -- the manager's window is forgotten
  pub sound_idle : (floor : ℕ) (begun : List (List ℕ)) (carried : List Kept) (taken : List (List ℕ)) (s : Seen) (frames : List Frame) → Sound b floor begun carried taken s frames → length begun ≤ length taken
      → Sound b (length carried) begun carried taken (record { since = []; idles = s.idles + 1 }) frames
  sound_idle floor begun carried taken s frames h closed =
      let answered = h.answered in let below = h.below in
      record {
        in_order = h.in_order;
        replied = h.replied;
        since = record { newer = []; older = []; whole = refl; run = refl; behind = inl refl };
        floor_taken = omega arith;
        answered = h.answered;
        below = h.below;
        one_open = h.one_open;
        frames = λ i f at. let x = h.frames i f at in let earlier = x.earlier in record { earlier = omega arith; floor_below = λ e. absurd (omega arith); fits = x.fits };
      }

  -- the manager takes a reply
  pub sound_takes : (floor : ℕ) (begun : List (List ℕ)) (carried : List Kept) (taken : List (List ℕ)) (s : Seen) (frames : List Frame) (n number : ℕ) (reply : List ℕ) → Sound b floor begun carried taken s frames
      → length taken < length begun → number ≡ b.number_of (length taken) → length begun ≤ n + b.span → number ≡ b.number_of n → IsKeptFor carried n reply
      → Sound b floor begun carried (taken ++ reply ∷ []) s frames
  sound_takes floor begun carried taken s frames n number reply h opened is live was kept =
      let within = slice_get_within carried n _ kept.at in
      let one_open = h.one_open in let below = h.below in let answered = h.answered in let floor_taken = h.floor_taken in
      let same : n ≡ length taken = numbers.one n (length taken) (omega arith) (omega arith) (sym was ∙ is) in
      let more = length_more taken reply in
      record {
        in_order = h.in_order;
        replied = λ m r t. elim (one_more taken reply m r t) [
          | inl old ↦ h.replied m r old
          | inr new ↦ subst (λ (r : List ℕ). IsKeptFor carried m r) new.1 (subst (λ (m : ℕ). IsKeptFor carried m reply) (same ∙ sym new.0) kept)
        ];
        since = h.since;
        floor_taken = omega arith;
        answered = omega arith;
        below = h.below;
        one_open = omega arith;
        frames = h.frames;
      }

-- A message that is put together from packets of one message is that message.
use Rattle.std.proofs.Common.{◌≡◌, ℕ, suc, ◌+◌, ◌%◌, ◌<◌, ◌≤◌, Bool, true, false, ◌||◌, eqb, ltb, not, List, [], ◌∷◌, ◌++◌, length, cond, refl, sym, ◌∙◌, ap, subst, arith, ◌⊎◌, inl, inr}
use Rattle.std.proofs.lemmas.Bool.{false≢true}
use Rattle.std.proofs.lemmas.Bool.{cond_both, eqb-true, or_parts, not-false}
use Rattle.model_bus.specs.Repeat.{In}
use Rattle.model_bus.specs.Packet.{Packet, IsCutFrom}
use Rattle.model_bus.specs.Assembly.{SentPacket, Step, Waits, Whole, Drops, IsWhole, joined, takes, waiting, message_of}

-- the packets of a cut from a place on have their places as numbers
from_place : (place : ℕ) (ps : List Packet) (bytes : List ℕ) → IsCutFrom place ps bytes → (p : Packet) → In p ps → place ≤ p.sequence
from_place place [] bytes h p is = absurd is
from_place place (q ∷ []) bytes h p (inl e) = let s : q.sequence ≡ p.sequence = ap (λ (p : Packet). p.sequence) e in let t = h.0 in omega arith
from_place place (q ∷ []) bytes h p (inr is) = absurd is
from_place place (q ∷ r ∷ ps) bytes h p (inl e) = let s : q.sequence ≡ p.sequence = ap (λ (p : Packet). p.sequence) e in let t = h.0 in omega arith
from_place place (q ∷ r ∷ ps) bytes h p (inr is) = let t = from_place (suc place) (r ∷ ps) h.4 h.6 p is in omega arith

-- the packet at the place itself is the first
head_is : (place : ℕ) (q : Packet) (qs : List Packet) (bytes : List ℕ) → IsCutFrom place (q ∷ qs) bytes → (p : Packet) → In p (q ∷ qs) → p.sequence ≡ place → q ≡ p
head_is place q qs bytes h p (inl e) at = e
head_is place q [] bytes h p (inr is) at = absurd is
head_is place q (r ∷ qs) bytes h p (inr is) at = absurd (let t = from_place (suc place) (r ∷ qs) h.4 h.6 p is in omega arith)

tail_is : (place : ℕ) (q : Packet) (qs : List Packet) (bytes : List ℕ) → IsCutFrom place (q ∷ qs) bytes → (p : Packet) → In p (q ∷ qs) → suc place ≤ p.sequence → In p qs
tail_is place q [] bytes h p (inl e) above = absurd (let s : q.sequence ≡ p.sequence = ap (λ (p : Packet). p.sequence) e in let t = h.0 in omega arith)
tail_is place q (r ∷ qs) bytes h p (inl e) above = absurd (let s : q.sequence ≡ p.sequence = ap (λ (p : Packet). p.sequence) e in let t = h.0 in omega arith)
tail_is place q qs bytes h p (inr is) above = is

pub one_message : (place : ℕ) (ps qs : List Packet) (bytes all : List ℕ) → IsCutFrom place ps bytes → IsCutFrom place qs all → ((p : Packet) → In p ps → In p qs) → bytes ≡ all
one_message place [] qs bytes all h k within = absurd h
one_message place (p ∷ ps) [] bytes all h k within = absurd k
one_message place (p ∷ []) (q ∷ []) bytes all h k within =
    let same : q ≡ p = head_is place q [] all k p (within p (inl refl)) h.0 in
    sym h.3 ∙ ap (λ (p : Packet). p.payload) (sym same) ∙ k.3
one_message place (p ∷ []) (q ∷ r ∷ qs) bytes all h k within =
    let same : q ≡ p = head_is place q (r ∷ qs) all k p (within p (inl refl)) h.0 in
    absurd (false≢true (sym k.2 ∙ ap (λ (p : Packet). p.last) same ∙ h.2))
one_message place (p ∷ o ∷ ps) (q ∷ []) bytes all h k within =
    let same : q ≡ p = head_is place q [] all k p (within p (inl refl)) h.0 in
    absurd (false≢true (sym h.2 ∙ ap (λ (p : Packet). p.last) (sym same) ∙ k.2))
one_message place (p ∷ o ∷ ps) (q ∷ r ∷ qs) bytes all h k within =
    let same : q ≡ p = head_is place q (r ∷ qs) all k p (within p (inl refl)) h.0 in
    let rest = one_message (suc place) (o ∷ ps) (r ∷ qs) h.4 k.4 h.6 k.6
    (λ x is. tail_is place q (r ∷ qs) all k x (within x (inr is)) (from_place (suc place) (o ∷ ps) h.4 h.6 x is)) in
    h.5 ∙ ap (λ (p : Packet). p.payload ++ h.4) (sym same) ∙ ap (λ (x : List ℕ). q.payload ++ x) rest ∙ sym k.5

-- two recent requests with one tag are one
pub one_tag : (first m n begun : ℕ) → m < begun → n < begun → begun ≤ m + 8 → begun ≤ n + 8 → (first + m) % 8 ≡ (first + n) % 8 → m ≡ n
one_tag first m n begun lt lt' live live' same = omega arith

first_is : (place : ℕ) (ps : List Packet) (bytes : List ℕ) → IsCutFrom place ps bytes → (p : Packet) → In p ps → p.first ≡ eqb p.sequence 0
first_is place [] bytes h p is = absurd is
first_is place (q ∷ []) bytes h p (inl e) = subst (λ (p : Packet). p.first ≡ eqb p.sequence 0) e (h.1 ∙ ap (λ (n : ℕ). eqb n 0) (sym h.0))
first_is place (q ∷ []) bytes h p (inr is) = absurd is
first_is place (q ∷ r ∷ ps) bytes h p (inl e) = subst (λ (p : Packet). p.first ≡ eqb p.sequence 0) e (h.1 ∙ ap (λ (n : ℕ). eqb n 0) (sym h.0))
first_is place (q ∷ r ∷ ps) bytes h p (inr is) = first_is (suc place) (r ∷ ps) h.4 h.6 p is

-- the packets of what was sent
abbrev pub packets : List SentPacket → List Packet
packets [] = []
packets (s ∷ ss) = s.packet ∷ packets ss

-- an open assembly
abbrev pub IsPartial : ℕ → List SentPacket → Type 0
IsPartial place [] = Unit {0}
IsPartial place (t ∷ ts) = (t.packet.sequence ≡ place) × (t.packet.first ≡ eqb place 0) × (t.packet.last ≡ false) × (length t.packet.payload ≡ 64) × IsPartial (suc place) ts

-- each packet is of the message of its request
abbrev pub Parts : (ℕ → List Packet) → List SentPacket → Type 0
Parts parts ts = (t : SentPacket) → In t ts → In t.packet (parts t.request)

append_nil : (xs : List ℕ) → xs ≡ xs ++ []
append_nil [] = refl
append_nil (x ∷ xs) = ap (λ (ys : List ℕ). x ∷ ys) (append_nil xs)

-- an assembly that ends is a cut
ends : (place : ℕ) (ts : List SentPacket) (s : SentPacket) → IsPartial place ts → s.packet.sequence ≡ place + length ts → s.packet.first ≡ eqb (place + length ts) 0 → s.packet.last ≡ true
    → IsCutFrom place (packets (ts ++ s ∷ [])) (message_of (ts ++ s ∷ []))
ends place [] s h at first last = let e : place + 0 ≡ place = omega arith in (at ∙ e, first ∙ ap (λ (n : ℕ). eqb n 0) e, last, append_nil s.packet.payload)
ends place (t ∷ []) s h at first last =
    let e : place + 1 ≡ suc place = omega arith in
    (h.0, h.1, h.2, h.3, s.packet.payload ++ [], refl, (at ∙ e, first ∙ ap (λ (n : ℕ). eqb n 0) e, last, append_nil s.packet.payload))
ends place (t ∷ u ∷ ts) s h at first last =
    let e : place + suc (suc (length ts)) ≡ suc place + suc (length ts) = omega arith in
    (h.0, h.1, h.2, h.3, message_of ((u ∷ ts) ++ s ∷ []), refl, ends (suc place) (u ∷ ts) s h.4 (at ∙ e) (first ∙ ap (λ (n : ℕ). eqb n 0) e) last)

grows_partial : (place : ℕ) (ts : List SentPacket) (s : SentPacket) → IsPartial place ts → s.packet.sequence ≡ place + length ts → s.packet.first ≡ eqb (place + length ts) 0 → s.packet.last ≡ false → length s.packet.payload ≡ 64 → IsPartial place (ts ++ s ∷ [])
grows_partial place [] s h at first last size = let e : place + 0 ≡ place = omega arith in (at ∙ e, first ∙ ap (λ (n : ℕ). eqb n 0) e, last, size, tt)
grows_partial place (t ∷ ts) s h at first last size =
    let e : place + suc (length ts) ≡ suc place + length ts = omega arith in
    (h.0, h.1, h.2, h.3, grows_partial (suc place) ts s h.4 (at ∙ e) (first ∙ ap (λ (n : ℕ). eqb n 0) e) last size)

pub in_push : (ts : List SentPacket) (s t : SentPacket) → In t (ts ++ s ∷ []) → In t ts ⊎ (s ≡ t)
in_push [] s t (inl e) = inr e
in_push [] s t (inr is) = absurd is
in_push (u ∷ ts) s t (inl e) = inl (inl e)
in_push (u ∷ ts) s t (inr is) = elim (in_push ts s t is) [ inl a ↦ inl (inr a) | inr e ↦ inr e ]

in_packets : (ts : List SentPacket) (p : Packet) → In p (packets ts) → (t : SentPacket) × In t ts × (t.packet ≡ p)
in_packets [] p is = absurd is
in_packets (t ∷ ts) p (inl e) = (t, inl refl, e)
in_packets (t ∷ ts) p (inr is) = let x = in_packets ts p is in (x.0, inr x.1, x.2)

-- what is put together is the message of the request that the last packet was sent for
abbrev pub IsMessageOf : (ℕ → List ℕ) → SentPacket → Step → Type 0
IsMessageOf messages s (Whole ss) = message_of ss ≡ messages s.request
IsMessageOf messages s Waits = Unit {0}
IsMessageOf messages s Drops = Unit {0}

module _ (parts : ℕ → List Packet) (messages : ℕ → List ℕ) (cuts : (n : ℕ) (p : Packet) → In p (parts n) → IsCutFrom 0 (parts n) (messages n)) where
  -- an open assembly: the beginning of a cut, each packet of the message of its request
  pub record Good (taken : List SentPacket) : Type 0 where
    pub partial : IsPartial 0 taken
    pub each : Parts parts taken

  -- what a step gives is as it should be
  abbrev pub Result : SentPacket → Step × List SentPacket → Type 0
  Result s r = IsMessageOf messages s r.0 × Good r.1

  none : Good []
  none = record { partial = tt; each = λ t is. absurd is }

  joined_good : (taken : List SentPacket) (s : SentPacket) → Good taken → In s.packet (parts s.request) → s.packet.first ≡ eqb s.packet.sequence 0
      → (IsWhole (joined taken s).0 → (t : SentPacket) → In t taken → t.request ≡ s.request) → Result s (joined taken s)
  joined_good taken s good part first =
      let P : Step × List SentPacket → Type 0 = (λ r. (IsWhole r.0 → (t : SentPacket) → In t taken → t.request ≡ s.request) → Result s r) in
      cond_both (ltb 3 (length taken) || not (eqb s.packet.sequence (length taken))) (Drops, [])
      (cond s.packet.last (Whole (taken ++ s ∷ []), []) (cond (not (eqb (length s.packet.payload) 64)) (Drops, []) (Waits, taken ++ s ∷ []))) P
      (λ _ _. (tt, none))
      (λ f.
      let at : s.packet.sequence ≡ length taken = eqb-true s.packet.sequence (length taken) (not-false (eqb s.packet.sequence (length taken)) (or_parts (ltb 3 (length taken)) (not (eqb s.packet.sequence (length taken))) f).1) in
      let zero_at : s.packet.sequence ≡ 0 + length taken = omega arith in
      let first_at : s.packet.first ≡ eqb (0 + length taken) 0 = first ∙ ap (λ (n : ℕ). eqb n 0) zero_at in
      let all : (t : SentPacket) → In t (taken ++ s ∷ []) → In t.packet (parts t.request) =
      (λ t is. elim (in_push taken s t is) [ inl old ↦ good.each t old | inr e ↦ subst (λ (t : SentPacket). In t.packet (parts t.request)) e part ]) in
      let of_one : ((t : SentPacket) → In t taken → t.request ≡ s.request) → (t : SentPacket) → In t (taken ++ s ∷ []) → In t.packet (parts s.request) =
      (λ same t is. elim (in_push taken s t is) [
        | inl old ↦ subst (λ (n : ℕ). In t.packet (parts n)) (same t old) (good.each t old)
        | inr e ↦ subst (λ (t : SentPacket). In t.packet (parts s.request)) e part
      ]) in
      cond_both s.packet.last (Whole (taken ++ s ∷ []), []) (cond (not (eqb (length s.packet.payload) 64)) (Drops, []) (Waits, taken ++ s ∷ [])) P
      (λ last same. (
        one_message 0 (packets (taken ++ s ∷ [])) (parts s.request) (message_of (taken ++ s ∷ [])) (messages s.request) (ends 0 taken s good.partial zero_at first_at last) (cuts s.request s.packet part)
            (λ p is. let x = in_packets (taken ++ s ∷ []) p is in subst (λ (p : Packet). In p (parts s.request)) x.2 (of_one (same tt) x.0 x.1)),
        none,
      ))
      (λ more. cond_both (not (eqb (length s.packet.payload) 64)) (Drops, []) (Waits, taken ++ s ∷ []) P
      (λ _ _. (tt, none))
      (λ size _. (tt, record { partial = grows_partial 0 taken s good.partial zero_at first_at more (eqb-true _ _ (not-false _ size)); each = all }))))

  pub takes_good : (taken : List SentPacket) (s : SentPacket) → Good taken → In s.packet (parts s.request) → (IsWhole (takes taken s).0 → (t : SentPacket) → In t (waiting taken s) → t.request ≡ s.request) → Result s (takes taken s)
  takes_good [] s good part =
      cond_both s.packet.first (joined [] s) (Drops, []) (λ r. (IsWhole r.0 → (t : SentPacket) → In t (waiting [] s) → t.request ≡ s.request) → Result s r)
      (λ _ _. joined_good [] s none part (first_is 0 (parts s.request) (messages s.request) (cuts s.request s.packet part) s.packet part) (λ _ t is. absurd is))
      (λ _ _. (tt, none))
  takes_good (t ∷ ts) s good part =
      cond_both s.packet.first (joined [] s) (joined (t ∷ ts) s) (λ r. (IsWhole r.0 → (u : SentPacket) → In u (waiting (t ∷ ts) s) → u.request ≡ s.request) → Result s r)
      (λ _ _. joined_good [] s none part (first_is 0 (parts s.request) (messages s.request) (cuts s.request s.packet part) s.packet part) (λ _ t is. absurd is))
      (λ f same. joined_good (t ∷ ts) s good part (first_is 0 (parts s.request) (messages s.request) (cuts s.request s.packet part) s.packet part)
      (λ whole u is. same whole u (subst (λ (b : Bool). In u (cond b [] (t ∷ ts))) (sym f) is)))

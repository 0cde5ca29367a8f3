-- The open request goes through where its frames come, and a cut's packets, in order, are the message.
use Rattle.std.proofs.Common.{◌≡◌, ℕ, zero, suc, ◌+◌, ◌≤◌, true, false, ◌||◌, eqb, ltb, not, List, [], ◌∷◌, ◌++◌, length, Option, Some, None, refl, sym, ◌∙◌, ap, subst, arith, append_assoc, append-nil}
use Rattle.std.specs.Prelude.{slice_get}
use Rattle.std.proofs.lemmas.Bool.{cond-true, cond-false, and_from, or_from, le-ltb, eq-eqb, ne_eqb, not_from_true}
use Rattle.std.proofs.lemmas.Option.{none-some}
use Rattle.model_bus.specs.Request.{carried_since}
use Rattle.model_bus.specs.Carried.{Outcome, IsNew, outcome, outcome_of, is_busy}
use Rattle.model_bus.specs.Numbering.{Rules, ipmb, smbus}
use Rattle.model_bus.specs.BusState.{request_of, Content, Reply, BusState, is_open, new_bytes, carried_content, taken_content}
use Rattle.model_bus.specs.Effect.{IsKeptFor}
use Rattle.model_bus.specs.Packet.{Packet, IsCutFrom}
use Rattle.model_bus.specs.Assembly.{SentPacket, Step, Waits, Whole, joined, takes, message_of}
use Rattle.model_bus.specs.PacketBus.{rules_of}
use Rattle.model_bus.specs.PacketSchedule.{JoinRule}
use Rattle.model_bus.specs.CleanLink.{GoesThrough, OpenGoesThrough, OpenGoesThroughInPackets, sent_in, CompletesMessage, CutIsWhole}
use Rattle.model_bus.proofs.Lists.{length_more}
use Rattle.model_bus.proofs.NumberLaws.{IsNumbering, ipmb_numbers, smbus_numbers}
use Rattle.model_bus.proofs.Repeats.{new_in}
use Rattle.model_bus.proofs.Sound.{Fits}
use Rattle.model_bus.proofs.Steps.{Holds, start_holds, run_holds}
use Rattle.model_bus.proofs.PacketEnds.{packet_run_holds, start_ends_hold}
use Rattle.model_bus.proofs.PacketLaws.{AsksNoLess, all_imply}

-- nothing stands only past the end
ended : {X : Type 0} (xs : List X) (n : ℕ) → slice_get xs n ≡ None → length xs ≤ n
ended [] n none = omega arith
ended (x ∷ xs) zero none = absurd (none-some x (sym none))
ended (x ∷ xs) (suc n) none = let rest = ended xs n none in omega arith

module _ (b : Rules) (numbers : IsNumbering b) (s : BusState) (h : Holds b s) where
  -- the open request, not yet carried out, is new unless the controller is busy
  pub open_is_new : (bytes : List ℕ) → slice_get s.carried (length s.taken) ≡ None → is_busy b.manager s.log ≡ false → outcome b.is_above (request_of b (length s.taken) bytes) s.log ≡ IsNew
  open_is_new bytes none free =
      let answered = h.sound.answered in
      let top = ended s.carried (length s.taken) none in
      let r = new_in b numbers s.begun s.carried h.sound.in_order (carried_since b.manager s.log) h.floor (length s.taken) bytes h.sound.since (omega arith) in
      ap (λ (o : Option (List ℕ)). outcome_of o (is_busy b.manager s.log)) r ∙ ap (outcome_of None) free

  -- the reply that is kept for the open request is taken where it comes
  pub kept_is_taken : (number : ℕ) (reply : List ℕ) → number ≡ b.number_of (length s.taken) → is_open s ≡ true → taken_content b (Reply number (Some reply)) s ≡ Some reply
  kept_is_taken number reply is opened = cond-true _ _ _ (and_from _ _ opened (eq-eqb number (b.number_of (length s.taken)) is))

  pub goes_through : GoesThrough b s
  goes_through = record {
    carried = λ which f bytes at is holds none free.
        ap (λ (c : Content). carried_content b f.request c s) holds
        ∙ ap (λ (n : ℕ). new_bytes (outcome b.is_above (request_of b n bytes) s.log) bytes) is
        ∙ ap (λ (o : Outcome). new_bytes o bytes) (open_is_new bytes none free);
    answered = λ which f number reply at is holds opened.
        let fits : Fits b s.begun s.carried f.request (Reply number (Some reply)) = subst (Fits b s.begun s.carried f.request) holds (h.sound.frames which f at).fits in (
          subst (λ (n : ℕ). IsKeptFor s.carried n reply) is fits.1,
          ap (λ (c : Content). taken_content b c s) holds ∙ kept_is_taken number reply (fits.0 ∙ ap b.number_of is) opened,
        );
  }

whole_messages : (b : Rules) → IsNumbering b → OpenGoesThrough b
whole_messages b numbers start events none empty honest = goes_through b numbers _ (run_holds b numbers events start (start_holds b start none empty) honest)

pub ipmb_goes_through : (manager controller first : ℕ) → OpenGoesThrough (ipmb manager controller first)
ipmb_goes_through manager controller first = whole_messages (ipmb manager controller first) (ipmb_numbers manager controller first)

pub smbus_goes_through : (manager controller first : ℕ) → OpenGoesThrough (smbus manager controller first)
smbus_goes_through manager controller first = whole_messages (smbus manager controller first) (smbus_numbers manager controller first)

pub packets_go_through : (rule : JoinRule) → AsksNoLess rule → OpenGoesThroughInPackets rule
packets_go_through rule asks b cutting start events none waits empty honest =
    let ok = packet_run_holds b cutting start.bus.log events start (start_ends_hold b cutting start none waits empty) (all_imply rule asks b events start honest) in
    goes_through (rules_of b) (smbus_numbers b.manager b.controller b.first) _ ok.holds

-- ---- packets in order

abbrev Result : Type 0
Result = Step × List SentPacket

fits_here : (taken : List SentPacket) (s : SentPacket) → length taken ≤ 3 → s.packet.sequence ≡ length taken → (ltb 3 (length taken) || not (eqb s.packet.sequence (length taken))) ≡ false
fits_here taken s few at = or_from _ _ (le-ltb 3 (length taken) few) (not_from_true _ (eq-eqb _ _ at))

joined_last : (taken : List SentPacket) (s : SentPacket) → length taken ≤ 3 → s.packet.sequence ≡ length taken → s.packet.last ≡ true → joined taken s ≡ (Whole (taken ++ s ∷ []), [])
joined_last taken s few at last = cond-false _ _ _ (fits_here taken s few at) ∙ cond-true _ _ _ last

joined_waits : (taken : List SentPacket) (s : SentPacket) → length taken ≤ 3 → s.packet.sequence ≡ length taken → s.packet.last ≡ false → length s.packet.payload ≡ 64 → joined taken s ≡ (Waits, taken ++ s ∷ [])
joined_waits taken s few at last size = cond-false _ _ _ (fits_here taken s few at) ∙ cond-false _ _ _ last ∙ cond-false _ _ _ (not_from_true _ (eq-eqb _ _ size))

takes_start : (taken : List SentPacket) (s : SentPacket) → s.packet.first ≡ true → takes taken s ≡ joined [] s
takes_start [] s first = cond-true _ _ _ first
takes_start (t ∷ ts) s first = cond-true _ _ _ first

takes_next : (t : SentPacket) (ts : List SentPacket) (s : SentPacket) → s.packet.first ≡ false → takes (t ∷ ts) s ≡ joined (t ∷ ts) s
takes_next t ts s first = cond-false _ _ _ first

-- the first of some packets waits, and the others complete what they complete behind it
one_waits : (whole taken next rest : List SentPacket) (s u : SentPacket) → takes taken s ≡ (Waits, next) → CompletesMessage whole next (u ∷ rest) → CompletesMessage whole taken (s ∷ u ∷ rest)
one_waits whole taken next rest s u e done = (ap (λ (r : Result). r.0) e, subst (λ (l : List SentPacket). CompletesMessage whole l (u ∷ rest)) (sym (ap (λ (r : Result). r.1) e)) done)

module _ (n idles : ℕ) where
  abbrev one : Packet → SentPacket
  one p = record { request = n; idles = idles; packet = p }

  rest_completes : (place : ℕ) (ps : List Packet) (bytes : List ℕ) (t : SentPacket) (ts : List SentPacket) → IsCutFrom place ps bytes → length (t ∷ ts) ≡ place → place + length ps ≤ 4
      → CompletesMessage ((t ∷ ts) ++ sent_in n idles ps) (t ∷ ts) (sent_in n idles ps)
  rest_completes place [] bytes t ts h long few = absurd h
  rest_completes place (p ∷ []) bytes t ts h long few =
      let later : p.first ≡ false = h.1 ∙ ne_eqb place 0 (λ zero_is. omega arith) in
      takes_next t ts (one p) later ∙ joined_last (t ∷ ts) (one p) (omega arith) (h.0 ∙ sym long) h.2
  rest_completes place (p ∷ q ∷ ps) bytes t ts h long few =
      let later : p.first ≡ false = h.1 ∙ ne_eqb place 0 (λ zero_is. omega arith) in
      let e : takes (t ∷ ts) (one p) ≡ (Waits, t ∷ (ts ++ one p ∷ [])) = takes_next t ts (one p) later ∙ joined_waits (t ∷ ts) (one p) (omega arith) (h.0 ∙ sym long) h.2 h.3 in
      let more = length_more (t ∷ ts) (one p) in
      let next = rest_completes (suc place) (q ∷ ps) h.4 t (ts ++ one p ∷ []) h.6 (omega arith) (omega arith) in
      let whole : (t ∷ (ts ++ one p ∷ [])) ++ sent_in n idles (q ∷ ps) ≡ (t ∷ ts) ++ sent_in n idles (p ∷ q ∷ ps) = append_assoc (t ∷ ts) (one p ∷ []) (sent_in n idles (q ∷ ps)) in
      one_waits ((t ∷ ts) ++ sent_in n idles (p ∷ q ∷ ps)) (t ∷ ts) (t ∷ (ts ++ one p ∷ [])) (sent_in n idles ps) (one p) (one q) e
      (subst (λ (w : List SentPacket). CompletesMessage w (t ∷ (ts ++ one p ∷ [])) (sent_in n idles (q ∷ ps))) whole next)

  cut_completes : (ps : List Packet) (bytes : List ℕ) (taken : List SentPacket) → length ps ≤ 4 → IsCutFrom 0 ps bytes → CompletesMessage (sent_in n idles ps) taken (sent_in n idles ps)
  cut_completes [] bytes taken few h = absurd h
  cut_completes (p ∷ []) bytes taken few h = takes_start taken (one p) h.1 ∙ joined_last [] (one p) (omega arith) h.0 h.2
  cut_completes (p ∷ q ∷ ps) bytes taken few h =
      let e : takes taken (one p) ≡ (Waits, one p ∷ []) = takes_start taken (one p) h.1 ∙ joined_waits [] (one p) (omega arith) h.0 h.2 h.3 in
      let next = rest_completes 1 (q ∷ ps) h.4 (one p) [] h.6 refl (omega arith) in
      one_waits (sent_in n idles (p ∷ q ∷ ps)) taken (one p ∷ []) (sent_in n idles ps) (one p) (one q) e next

  message_is : (place : ℕ) (ps : List Packet) (bytes : List ℕ) → IsCutFrom place ps bytes → message_of (sent_in n idles ps) ≡ bytes
  message_is place [] bytes h = absurd h
  message_is place (p ∷ []) bytes h = append-nil p.payload ∙ h.3
  message_is place (p ∷ q ∷ ps) bytes h = ap (λ (rest : List ℕ). p.payload ++ rest) (message_is (suc place) (q ∷ ps) h.4 h.6) ∙ sym h.5

pub cut_is_whole : CutIsWhole
cut_is_whole n idles ps bytes taken cut = (cut_completes n idles ps bytes taken cut.0 cut.1, message_is n idles 0 ps bytes cut.1)

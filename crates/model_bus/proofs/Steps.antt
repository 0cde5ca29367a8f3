-- Each honest event keeps what holds.
use Rattle.std.proofs.Common.{◌≡◌, ℕ, ◌+◌, ◌≤◌, Bool, true, false, ◌&&◌, eqb, List, [], ◌∷◌, ◌++◌, length, Option, Some, None, refl, sym, ◌∙◌, ap, subst, arith, inl, inr}
use Rattle.std.specs.Prelude.{slice_get, IfSome}
use Rattle.std.proofs.lemmas.Bool.{and_parts, eqb-true, ltb-true, ltb-false, cond_both, cases_eq, cases_lt}
use Rattle.std.proofs.lemmas.Option.{none-some, slice_get_within}
use Rattle.model_bus.specs.Request.{Kept, Entry, carried_since, idles_of}
use Rattle.model_bus.specs.Carried.{Outcome, Repeats, IsBusy, IsNew, outcome, outcome_of, log_after, reply_after, carried_after, is_busy}
use Rattle.model_bus.specs.Numbering.{Rules}
use Rattle.model_bus.specs.BusState.{request_of, Content, Ask, Reply, Frame, BusState, Event, Begins, SendsAgain, ReachesPort, ReachesManager, OtherAsks, OtherReplies, IsIdle, Resumes, opening, is_open, sent, begins, sends_again, hears, comes, taken_content, takes_if, taken_now, at_port, happens, run}
use Rattle.model_bus.specs.Schedule.{IsLive, IsHonest, AllHonest}
use Rattle.model_bus.specs.Start.{NothingUnderWay, FreshWindow}
use Rattle.model_bus.specs.Effect.{IsKeptFor}
use Rattle.model_bus.proofs.Lists.{at_end}
use Rattle.model_bus.proofs.NumberLaws.{IsNumbering}
use Rattle.model_bus.proofs.Repeats.{repeats_in, new_in}
use Rattle.model_bus.proofs.Strangers.{ignored}
use Rattle.model_bus.proofs.Sound.{Seen, seen, seen-mine, seen-other, seen-idle, seen-idle_other, Fits, Sound, sound_begins, sound_again, sound_reply, sound_carried, sound_idle, sound_takes}

-- the invariant at a floor
abbrev pub SoundAt : Rules → ℕ → BusState → Type 0
SoundAt b floor s = Sound b floor s.begun s.carried s.taken (seen b.manager s.log) s.frames

-- the invariant of a bus
pub record Holds (b : Rules) (s : BusState) : Type 0 where
  pub floor : ℕ
  pub sound : SoundAt b floor s

pub opening_holds : (b : Rules) (before : List Entry) → FreshWindow b before → Holds b (opening before)
opening_holds b before fresh = record {
  floor = 0;
  sound = record {
    in_order = λ n k e. absurd (none-some k e);
    replied = λ n reply e. absurd (none-some reply e);
    since = record { newer = []; older = carried_since b.manager before; whole = refl; run = refl; behind = inr (refl, fresh) };
    floor_taken = omega arith;
    answered = omega arith;
    below = omega arith;
    one_open = omega arith;
    frames = λ i f e. absurd (none-some f e);
  };
}

-- with nothing under way the bus is at the opening
pub opens : (s : BusState) → NothingUnderWay s → opening s.log ≡ s
opens s start =
    ap (λ (l : List (List ℕ)). record { begun = l; carried = []; taken = []; log = s.log; frames = [] }) (sym start.begun)
    ∙ ap (λ (l : List Kept). record { begun = s.begun; carried = l; taken = []; log = s.log; frames = [] }) (sym start.carried)
    ∙ ap (λ (l : List (List ℕ)). record { begun = s.begun; carried = s.carried; taken = l; log = s.log; frames = [] }) (sym start.taken)
    ∙ ap (λ (l : List Frame). record { begun = s.begun; carried = s.carried; taken = s.taken; log = s.log; frames = l }) (sym start.frames)

pub start_holds : (b : Rules) (s : BusState) → NothingUnderWay s → FreshWindow b s.log → Holds b s
start_holds b s start fresh = subst (Holds b) (opens s start) (opening_holds b s.log fresh)

module _ (b : Rules) (numbers : IsNumbering b) where
  pub again_holds : (s : BusState) (o : Option (List ℕ)) → slice_get s.begun (length s.taken) ≡ o → Holds b s → Holds b (sends_again b o s)
  again_holds s None e h = h
  again_holds s (Some bytes) e h = record { floor = h.floor; sound = sound_again b numbers h.floor s.begun s.carried s.taken (seen b.manager s.log) s.frames bytes h.sound e }

  -- a live request that was carried is repeated
  pub repeat_holds : (s : BusState) (h : Holds b s) (n : ℕ) (reply : List ℕ) → h.floor ≤ n → IsKeptFor s.carried n reply
      → Holds b (sent b n (Reply (b.number_of n) (Some reply)) s)
  repeat_holds s h n reply above kept =
      record { floor = h.floor; sound = sound_reply b numbers h.floor s.begun s.carried s.taken (seen b.manager s.log) s.frames n (Some reply) h.sound above (refl, kept) }

  -- the bus after the port heard a request of the manager, by what it did with it
  abbrev pub heard : BusState → ℕ → Kept → Outcome → BusState
  heard s n k o = sent b n (Reply k.request.number (reply_after o k)) (record s { carried = carried_after o k s.carried; log = log_after o k s.log })

  -- the open request, not yet carried, is carried or finds the port busy
  pub new_holds : (s : BusState) (h : Holds b s) (n : ℕ) (bytes answer : List ℕ) (busy : Bool) → h.floor ≤ n → n ≡ length s.carried → slice_get s.begun n ≡ Some bytes
      → Holds b (heard s n (record { request = request_of b n bytes; reply = answer }) (outcome_of None busy))
  new_holds s h n bytes answer true above top at =
      record { floor = h.floor; sound = sound_reply b numbers h.floor s.begun s.carried s.taken (seen b.manager s.log) s.frames n None h.sound above refl }
  new_holds s h n bytes answer false above top at =
      let k : Kept = record { request = request_of b n bytes; reply = answer } in
      let window = seen b.manager s.log in
      let more = s.carried ++ k ∷ [] in
      let after : Seen = record { since = k ∷ window.since; idles = window.idles } in
      let one : Sound b h.floor s.begun more s.taken after s.frames = sound_carried b numbers h.floor s.begun s.carried s.taken window s.frames k h.sound (subst (λ (n : ℕ). slice_get s.begun n ≡ Some bytes) top at) (ap (λ (n : ℕ). request_of b n bytes) top) in
      let kept : IsKeptFor more n answer = record { kept = k; at = subst (λ (n : ℕ). slice_get more n ≡ Some k) (sym top) (at_end s.carried k); replied = refl } in
      let two = sound_reply b numbers h.floor s.begun more s.taken after s.frames n (Some answer) one above (refl, kept) in
      record { floor = h.floor; sound = subst (λ (w : Seen). Sound b h.floor s.begun more s.taken w (s.frames ++ record { request = n; idles = idles_of b.manager s.log; content = Reply (b.number_of n) (Some answer) } ∷ [])) (sym (seen-mine b.manager k s.log refl)) two }

  pub hears_holds : (s : BusState) (h : Holds b s) (n : ℕ) (bytes answer : List ℕ) → h.floor ≤ n → length s.begun ≤ n + b.span → slice_get s.begun n ≡ Some bytes
      → Holds b (hears b n (record { request = request_of b n bytes; reply = answer }) s)
  hears_holds s h n bytes answer above live at =
      let window = seen b.manager s.log in
      let k : Kept = record { request = request_of b n bytes; reply = answer } in
      let below = h.sound.below in let one_open = h.sound.one_open in let answered = h.sound.answered in
      let within = slice_get_within s.begun n bytes at in
      let busy = is_busy b.manager s.log in
      elim (cases_lt n (length s.carried)) [
        | inl before ↦
            let r = repeats_in b numbers s.begun s.carried h.sound.in_order window.since h.floor n bytes h.sound.since above before (omega arith) at in
            subst (λ (o : Option (List ℕ)). Holds b (heard s n k (outcome_of o busy))) (sym r.2)
            (repeat_holds s h n r.0.reply above (record { kept = r.0; at = r.1; replied = refl }))
        | inr after ↦
            let r = new_in b numbers s.begun s.carried h.sound.in_order window.since h.floor n bytes h.sound.since (omega arith) in
            subst (λ (o : Option (List ℕ)). Holds b (heard s n k (outcome_of o busy))) (sym r)
            (new_holds s h n bytes answer busy above (omega arith) at)
      ]

  pub comes_holds : (s : BusState) (h : Holds b s) (answer : List ℕ) (n : ℕ) (c : Content) → h.floor ≤ n → length s.begun ≤ n + b.span → Fits b s.begun s.carried n c
      → Holds b (comes b answer n c s)
  comes_holds s h answer n (Ask bytes) above live at = hears_holds s h n bytes answer above live at
  comes_holds s h answer n (Reply number reply) above live at = h

  pub at_port_holds : (s : BusState) (h : Holds b s) (answer : List ℕ) (which : ℕ) (o : Option Frame) → slice_get s.frames which ≡ o → IfSome o (IsLive b s) → Holds b (at_port b answer o s)
  at_port_holds s h answer which None e live = h
  at_port_holds s h answer which (Some f) e live =
      let f_sent = h.sound.frames which f e in
      comes_holds s h answer f.request f.content (f_sent.floor_below live.1) live.0 f_sent.fits

  pub returns_holds : (s : BusState) (h : Holds b s) (n : ℕ) (c : Content) → length s.begun ≤ n + b.span → Fits b s.begun s.carried n c
      → Holds b (takes_if (taken_content b c s) s)
  returns_holds s h n (Ask bytes) live at = h
  returns_holds s h n (Reply number None) live at = h
  returns_holds s h n (Reply number (Some reply)) live at =
      cond_both (is_open s && eqb number (b.number_of (length s.taken))) (Some reply) None (λ o. Holds b (takes_if o s))
      (λ t. let parts = and_parts _ _ t in
      record { floor = h.floor; sound = sound_takes b numbers h.floor s.begun s.carried s.taken (seen b.manager s.log) s.frames n number reply h.sound (ltb-true _ _ parts.0) (eqb-true _ _ parts.1) live at.0 at.1 })
      (λ f. h)

  pub at_manager_holds : (s : BusState) (h : Holds b s) (which : ℕ) (o : Option Frame) → slice_get s.frames which ≡ o → IfSome o (IsLive b s) → Holds b (takes_if (taken_now b o s) s)
  at_manager_holds s h which None e live = h
  at_manager_holds s h which (Some f) e live = returns_holds s h f.request f.content live.0 (h.sound.frames which f e).fits

  pub other_holds : (s : BusState) (h : Holds b s) (k : Kept) (o : Outcome) → (k.request.requester ≡ b.manager → ⊥) → Holds b (record s { log = log_after o k s.log })
  other_holds s h k (Repeats reply) not_mine = h
  other_holds s h k IsBusy not_mine = h
  other_holds s h k IsNew not_mine =
      record { floor = h.floor; sound = subst (λ (w : Seen). Sound b h.floor s.begun s.carried s.taken w s.frames) (sym (seen-other b.manager k s.log not_mine)) h.sound }

  pub happens_holds : (s : BusState) (e : Event) → Holds b s → IsHonest b s e → Holds b (happens b s e)
  happens_holds s (Begins bytes) h honest =
      cond_both (is_open s) s (begins b bytes s) (Holds b) (λ t. h)
      (λ f. record { floor = h.floor; sound = sound_begins b numbers h.floor s.begun s.carried s.taken (seen b.manager s.log) s.frames bytes h.sound (ltb-false _ _ f) })
  happens_holds s SendsAgain h honest = again_holds s _ refl h
  happens_holds s (ReachesPort which answer) h honest = at_port_holds s h answer which _ refl honest
  happens_holds s (ReachesManager which) h honest = at_manager_holds s h which _ refl honest
  happens_holds s (OtherAsks request answer) h honest = other_holds s h (record { request = request; reply = answer }) (outcome b.is_above request s.log) honest
  happens_holds s (OtherReplies source number reply) h honest = subst (Holds b) (sym (ignored b source number reply s honest)) h
  happens_holds s (IsIdle requester) h honest =
      elim (cases_eq requester b.manager) [
        | inl mine ↦ record {
          floor = length s.carried;
          sound = subst (λ (w : Seen). Sound b (length s.carried) s.begun s.carried s.taken w s.frames) (sym (seen-idle b.manager requester s.log mine))
              (sound_idle b numbers h.floor s.begun s.carried s.taken (seen b.manager s.log) s.frames h.sound (ltb-false _ _ (honest mine)));
        }
        | inr other ↦ record { floor = h.floor; sound = subst (λ (w : Seen). Sound b h.floor s.begun s.carried s.taken w s.frames) (sym (seen-idle_other b.manager requester s.log other)) h.sound }
      ]
  happens_holds s Resumes h honest = h

  pub run_holds : (events : List Event) (s : BusState) → Holds b s → AllHonest b events s → Holds b (run b events s)
  run_holds [] s h honest = h
  run_holds (e ∷ es) s h honest = run_holds es (happens b s e) (happens_holds s e h honest.0) honest.1

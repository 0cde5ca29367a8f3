-- What each honest event does to the manager's requests.
use Rattle.std.proofs.Common.{◌≡◌, ℕ, ◌+◌, ◌<◌, ◌≤◌, Bool, true, false, ◌&&◌, eqb, List, [], ◌∷◌, ◌++◌, length, Option, Some, None, refl, sym, ◌∙◌, ap, subst, arith, inl, inr}
use Rattle.std.specs.Prelude.{slice_get, IfSome, MatchOption, MatchBool}
use Rattle.std.proofs.lemmas.Bool.{and_parts, eqb-true, ltb-true, ltb-false, cond_both, cases_lt}
use Rattle.std.proofs.lemmas.Option.{slice_get_within, slice_get_past}
use Rattle.model_bus.specs.Request.{Kept, Entry}
use Rattle.model_bus.specs.Carried.{Outcome, outcome_of, is_busy}
use Rattle.model_bus.specs.Numbering.{Rules}
use Rattle.model_bus.specs.BusState.{request_of, Content, Ask, Reply, Frame, BusState, Event, Begins, SendsAgain, ReachesPort, ReachesManager, OtherAsks, OtherReplies, IsIdle, Resumes, is_open, begins, sends_again, hears, comes, takes_if, at_port, new_bytes, carried_content, carried_now, taken_content, taken_now}
use Rattle.model_bus.specs.Schedule.{IsLive, IsHonest}
use Rattle.model_bus.specs.Effect.{IsKeptFor, SameRequests, BeginsRequest, CarriesOpen, TakesReply, HasEffect}
use Rattle.model_bus.proofs.Lists.{at_end}
use Rattle.model_bus.proofs.NumberLaws.{IsNumbering}
use Rattle.model_bus.proofs.Repeats.{repeats_in, new_in}
use Rattle.model_bus.proofs.Strangers.{ignored}
use Rattle.model_bus.proofs.Sound.{seen, Fits}
use Rattle.model_bus.proofs.Steps.{Holds, heard}

module _ (b : Rules) (numbers : IsNumbering b) where
  new_effect : (s : BusState) (h : Holds b s) (n : ℕ) (bytes answer : List ℕ) (busy : Bool) → n ≡ length s.carried → slice_get s.begun n ≡ Some bytes
      → let k : Kept = record { request = request_of b n bytes; reply = answer } in
      MatchOption (new_bytes (outcome_of None busy) bytes) (SameRequests s (heard b numbers s n k (outcome_of None busy))) (λ bytes. CarriesOpen s (heard b numbers s n k (outcome_of None busy)) bytes answer)
  new_effect s h n bytes answer true top at = record { begun = refl; carried = refl; taken = refl }
  new_effect s h n bytes answer false top at =
      let k : Kept = record { request = request_of b n bytes; reply = answer } in
      let within = slice_get_within s.begun n bytes at in
      let answered = h.sound.answered in let below = h.sound.below in let one_open = h.sound.one_open in
      let is : n ≡ length s.taken = omega arith in
      let kept_is : slice_get (s.carried ++ k ∷ []) n ≡ Some k = ap (slice_get (s.carried ++ k ∷ [])) top ∙ at_end s.carried k in
      record {
        begun = refl;
        taken = refl;
        opened = subst (λ (n : ℕ). slice_get s.begun n ≡ Some bytes) is at;
        first = slice_get_past s.carried (length s.taken) (omega arith);
        carried = (k, refl, refl, refl);
        kept = subst (λ (m : ℕ). IsKeptFor (s.carried ++ k ∷ []) m answer) is (record { kept = k; at = kept_is; replied = refl });
      }

  hears_effect : (s : BusState) (h : Holds b s) (n : ℕ) (bytes answer : List ℕ) → h.floor ≤ n → length s.begun ≤ n + b.span → slice_get s.begun n ≡ Some bytes
      → let k : Kept = record { request = request_of b n bytes; reply = answer } in
      MatchOption (carried_content b n (Ask bytes) s) (SameRequests s (hears b n k s)) (λ bytes. CarriesOpen s (hears b n k s) bytes answer)
  hears_effect s h n bytes answer above live at =
      let window = seen b.manager s.log in
      let k : Kept = record { request = request_of b n bytes; reply = answer } in
      let below = h.sound.below in let one_open = h.sound.one_open in let answered = h.sound.answered in
      let within = slice_get_within s.begun n bytes at in
      let busy = is_busy b.manager s.log in
      let Says : Outcome → Type 0 = (λ o. MatchOption (new_bytes o bytes) (SameRequests s (heard b numbers s n k o)) (λ bytes. CarriesOpen s (heard b numbers s n k o) bytes answer)) in
      elim (cases_lt n (length s.carried)) [
        | inl before ↦
            let r = repeats_in b numbers s.begun s.carried h.sound.in_order window.since h.floor n bytes h.sound.since above before (omega arith) at in
            subst (λ (o : Option (List ℕ)). Says (outcome_of o busy)) (sym r.2) (record { begun = refl; carried = refl; taken = refl })
        | inr after ↦
            let r = new_in b numbers s.begun s.carried h.sound.in_order window.since h.floor n bytes h.sound.since (omega arith) in
            subst (λ (o : Option (List ℕ)). Says (outcome_of o busy)) (sym r) (new_effect s h n bytes answer busy (omega arith) at)
      ]

  -- live content comes to the port
  pub comes_effect : (s : BusState) (h : Holds b s) (answer : List ℕ) (n : ℕ) (c : Content) → h.floor ≤ n → length s.begun ≤ n + b.span → Fits b s.begun s.carried n c
      → MatchOption (carried_content b n c s) (SameRequests s (comes b answer n c s)) (λ bytes. CarriesOpen s (comes b answer n c s) bytes answer)
  comes_effect s h answer n (Ask bytes) above live at = hears_effect s h n bytes answer above live at
  comes_effect s h answer n (Reply number reply) above live at = record { begun = refl; carried = refl; taken = refl }

  pub port_effect : (s : BusState) (h : Holds b s) (answer : List ℕ) (which : ℕ) (o : Option Frame) → slice_get s.frames which ≡ o → IfSome o (IsLive b s)
      → MatchOption (carried_now b o s) (SameRequests s (at_port b answer o s)) (λ bytes. CarriesOpen s (at_port b answer o s) bytes answer)
  port_effect s h answer which None e live = record { begun = refl; carried = refl; taken = refl }
  port_effect s h answer which (Some f) e live =
      let f_sent = h.sound.frames which f e in
      comes_effect s h answer f.request f.content (f_sent.floor_below live.1) live.0 f_sent.fits

  -- live content comes to the manager
  pub returns_effect : (s : BusState) (h : Holds b s) (n : ℕ) (c : Content) → length s.begun ≤ n + b.span → Fits b s.begun s.carried n c
      → MatchOption (taken_content b c s) (SameRequests s (takes_if (taken_content b c s) s)) (λ reply. TakesReply s (takes_if (taken_content b c s) s) reply)
  returns_effect s h n (Ask bytes) live at = record { begun = refl; carried = refl; taken = refl }
  returns_effect s h n (Reply number None) live at = record { begun = refl; carried = refl; taken = refl }
  returns_effect s h n (Reply number (Some reply)) live at =
      cond_both (is_open s && eqb number (b.number_of (length s.taken))) (Some reply) None (λ o. MatchOption o (SameRequests s (takes_if o s)) (λ reply. TakesReply s (takes_if o s) reply))
      (λ t. let parts = and_parts _ _ t in
      let lt : length s.taken < length s.begun = ltb-true _ _ parts.0 in
      let one_open = h.sound.one_open in let below = h.sound.below in
      let within = slice_get_within s.carried n at.1.kept at.1.at in
      let same : n ≡ length s.taken = numbers.one n (length s.taken) (omega arith) (omega arith) (sym at.0 ∙ eqb-true _ _ parts.1) in
      record {
        begun = refl;
        carried = refl;
        taken = refl;
        opened = lt;
        kept = subst (λ (m : ℕ). IsKeptFor s.carried m reply) same at.1;
      })
      (λ f. record { begun = refl; carried = refl; taken = refl })

  pub manager_effect : (s : BusState) (h : Holds b s) (which : ℕ) (o : Option Frame) → slice_get s.frames which ≡ o → IfSome o (IsLive b s)
      → MatchOption (taken_now b o s) (SameRequests s (takes_if (taken_now b o s) s)) (λ reply. TakesReply s (takes_if (taken_now b o s) s) reply)
  manager_effect s h which None e live = record { begun = refl; carried = refl; taken = refl }
  manager_effect s h which (Some f) e live = returns_effect s h f.request f.content live.0 (h.sound.frames which f e).fits

  pub other_effect : (s : BusState) (log : List Entry) → SameRequests s (record s { log = log })
  other_effect s log = record { begun = refl; carried = refl; taken = refl }

  pub again_effect : (s : BusState) (o : Option (List ℕ)) → SameRequests s (sends_again b o s)
  again_effect s None = record { begun = refl; carried = refl; taken = refl }
  again_effect s (Some bytes) = record { begun = refl; carried = refl; taken = refl }

  pub begins_effect : (s : BusState) → Holds b s → (bytes : List ℕ) → HasEffect b s (Begins bytes)
  begins_effect s h bytes =
      cond_both (is_open s) s (begins b bytes s) (λ new. MatchBool (is_open s) (SameRequests s new) (BeginsRequest s new bytes))
      (λ t. subst (λ (o : Bool). MatchBool o (SameRequests s s) (BeginsRequest s s bytes)) (sym t) (record { begun = refl; carried = refl; taken = refl }))
      (λ f.
      let closed : length s.begun ≤ length s.taken = ltb-false _ _ f in
      let answered = h.sound.answered in let below = h.sound.below in
      subst (λ (o : Bool). MatchBool o (SameRequests s (begins b bytes s)) (BeginsRequest s (begins b bytes s) bytes)) (sym f)
      (record { begun = refl; carried = refl; taken = refl; none_open = omega arith }))

  pub has_effect : (s : BusState) (e : Event) → Holds b s → IsHonest b s e → HasEffect b s e
  has_effect s (Begins bytes) h honest = begins_effect s h bytes
  has_effect s SendsAgain h honest = again_effect s _
  has_effect s (ReachesPort which answer) h honest = port_effect s h answer which _ refl honest
  has_effect s (ReachesManager which) h honest = manager_effect s h which _ refl honest
  has_effect s (OtherAsks request answer) h honest = other_effect s _
  has_effect s (OtherReplies source number reply) h honest = subst (λ (new : BusState). SameRequests s new) (sym (ignored b source number reply s honest)) (other_effect s s.log)
  has_effect s (IsIdle requester) h honest = other_effect s _
  has_effect s Resumes h honest = other_effect s s.log

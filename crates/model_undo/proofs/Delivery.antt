-- What comes of frames that are brought to their ends as soon as they are sent.
use Rattle.std.proofs.Common.{◌≡◌, ℕ, ◌+◌, ◌-◌, ◌≤◌, Bool, true, false, ◌&&◌, not, eqb, leb, List, [], ◌∷◌, ◌++◌, length, Option, Some, None, refl, sym, ◌∙◌, ap, subst, arith}
use Rattle.std.specs.Prelude.{slice_get, IfSome, if◌then◌else◌}
use Rattle.std.proofs.lemmas.Bool.{lt-ltb, le-ltb, cond-true, eq-eqb}
use Rattle.std.proofs.lemmas.Option.{slice_get_past}
use Rattle.model_bus.specs.Request.{Kept, Entry, Carried, idles_of, carried_since}
use Rattle.model_bus.specs.Carried.{requesters, IsNew, outcome, is_busy}
use Rattle.model_bus.specs.Numbering.{Rules}
use Rattle.model_bus.specs.BusState.{BusState, Frame, Content, Ask, Reply, Begins, ReachesPort, ReachesManager, request_of, is_open, hears, carried_now, taken_now, at_port, comes, takes_if, happens, begins}
use Rattle.model_bus.specs.Schedule.{IsLive}
use Rattle.model_bus.proofs.Lists.{at_end, length_more}
use Rattle.model_bus.proofs.NumberLaws.{IsNumbering}
use Rattle.model_bus.proofs.Steps.{Holds, heard}
use Rattle.model_bus.proofs.Requesters.{is_some_list, has_carried}
use Rattle.model_bus.proofs.CleanLink.{goes_through, open_is_new}
use Rattle.model_undo.specs.Line.{Exchange, Line, exchange, whole}
use Rattle.model_undo.specs.Joined.{IsClosed}
use Rattle.model_undo.specs.Delivery.{Delivery, newest, by_message}
use Rattle.model_undo.proofs.LineLaws.{IsLine, whole_is_line}

module _ (L : Line) where
  -- these come to the port one after another: the last has the request carried out, and none before it
  abbrev pub HasCarried : List L.Event → L.State → Exchange → (L.State → Type 0) → Type 0
  HasCarried [] s x P = ⊥
  HasCarried (e ∷ []) s x P = L.IsOutside e × (L.is_to_manager e ≡ false) × L.IsHonest s e × (L.carries s e ≡ Some x) × P (L.happens s e)
  HasCarried (e ∷ f ∷ es) s x P = L.IsOutside e × (L.is_to_manager e ≡ false) × L.IsHonest s e × (L.carries s e ≡ None) × HasCarried (f ∷ es) (L.happens s e) x P

  -- these come to the manager: the last brings the reply, and none before it
  abbrev pub HasBrought : List L.Event → L.State → List ℕ → (L.State → Type 0) → Type 0
  HasBrought [] s reply P = ⊥
  HasBrought (e ∷ []) s reply P = L.IsOutside e × (L.is_to_manager e ≡ true) × L.IsHonest s e × (L.brings s e ≡ Some reply) × P (L.happens s e)
  HasBrought (e ∷ f ∷ es) s reply P = L.IsOutside e × (L.is_to_manager e ≡ true) × L.IsHonest s e × (L.brings s e ≡ None) × HasBrought (f ∷ es) (L.happens s e) reply P

-- what a line that loses nothing does for a manager
pub record LosesNothing (L : Line) (D : Delivery L) (line : IsLine L) : Type 1 where
  -- the request of these bytes was just begun, and there is a place for it
  pub Asked : L.State → List ℕ → Type 0
  -- its reply was just sent
  pub Answered : L.State → List ℕ → Type 0
  pub begun : (s : L.State) (bytes : List ℕ) → line.Holds s → IsClosed (L.requests s) → D.HasPlace s → D.CanSend bytes → Asked (L.happens s (L.begins bytes)) bytes
  pub carried : (s : L.State) (bytes answer : List ℕ) → line.Holds s → Asked s bytes → D.CanSend bytes → D.CanSend answer → HasCarried L (D.to_port s answer) s (record { bytes = bytes; reply = answer }) (λ t. Answered t answer)
  pub brought : (s : L.State) (answer : List ℕ) → line.Holds s → Answered s answer → D.CanSend answer → HasBrought L (D.to_manager s) s answer D.HasPlace

-- ---- whole messages

-- the newest of the frames with one more is that one
newest_is : (frames : List Frame) (f : Frame) → slice_get (frames ++ f ∷ []) (length (frames ++ f ∷ []) - 1) ≡ Some f
newest_is frames f =
    let more = length_more frames f in
    let place : length (frames ++ f ∷ []) - 1 ≡ length frames = omega arith in
    ap (slice_get (frames ++ f ∷ [])) place ∙ at_end frames f

-- a request that was just carried out has given its requester a window
has_window : (q : ℕ) (k : Kept) (log : List Entry) → k.request.requester ≡ q → is_busy q (Carried k ∷ log) ≡ false
has_window q k log is =
    let known = has_carried q (Carried k ∷ log) ∙ ap is_some_list (cond-true (eqb k.request.requester q) (k ∷ carried_since q log) (carried_since q log) (eq-eqb k.request.requester q is)) in
    ap (λ (t : Bool). not t && leb 8 (length (requesters (Carried k ∷ log)))) known

module _ (b : Rules) (numbers : IsNumbering b) (wide : 1 ≤ b.span) where
  -- the request of these bytes is open and not carried out yet, the newest frame is its own, and there is a place for it
  pub record JustAsked (s : BusState) (bytes : List ℕ) : Type 0 where
    pub frame : Frame
    pub at : slice_get s.frames (newest s) ≡ Some frame
    pub live : IsLive b s frame
    pub own : frame.request ≡ length s.taken
    pub holds : frame.content ≡ Ask bytes
    pub is_now : is_open s ≡ true
    pub first : slice_get s.carried (length s.taken) ≡ None
    pub free : is_busy b.manager s.log ≡ false

  -- the newest frame is the reply to the open request
  pub record JustAnswered (s : BusState) (answer : List ℕ) : Type 0 where
    pub frame : Frame
    pub at : slice_get s.frames (newest s) ≡ Some frame
    pub live : IsLive b s frame
    pub own : frame.request ≡ length s.taken
    pub number : ℕ
    pub holds : frame.content ≡ Reply number (Some answer)
    pub is_now : is_open s ≡ true
    pub free : is_busy b.manager s.log ≡ false

  pub just_begun : (s : BusState) (bytes : List ℕ) → Holds b s → IsClosed s → is_busy b.manager s.log ≡ false → JustAsked (happens b s (Begins bytes)) bytes
  just_begun s bytes h closed free =
      let answered = h.sound.answered in let below = h.sound.below in
      let new : BusState = begins b bytes s in
      let more = length_more s.begun bytes in
      let all : length s.begun ≡ length s.taken = omega arith in
      let none : slice_get s.carried (length s.taken) ≡ None = slice_get_past s.carried (length s.taken) (omega arith) in
      let f : Frame = record { request = length s.begun; idles = idles_of b.manager s.log; content = Ask bytes } in
      let asked : JustAsked new bytes = record {
        frame = f;
        at = newest_is s.frames f;
        live = (omega arith, refl);
        own = all;
        holds = refl;
        is_now = lt-ltb (length s.taken) (length (s.begun ++ bytes ∷ [])) (omega arith);
        first = none;
        free = free;
      } in
      subst (λ (t : Bool). JustAsked (if t then s else new) bytes) (sym (le-ltb _ _ closed)) asked

  -- where it is carried out its reply is sent
  pub answered_after : (s : BusState) (bytes answer : List ℕ) → JustAsked s bytes → JustAnswered (heard b numbers s (length s.taken) (record { request = request_of b (length s.taken) bytes; reply = answer }) IsNew) answer
  answered_after s bytes answer a =
      let n = length s.taken in
      let k : Kept = record { request = request_of b n bytes; reply = answer } in
      let f : Frame = record { request = n; idles = idles_of b.manager s.log; content = Reply (b.number_of n) (Some answer) } in
      let recent : length s.begun ≤ n + b.span = subst (λ (m : ℕ). length s.begun ≤ m + b.span) a.own a.live.0 in
      record {
        frame = f;
        at = newest_is s.frames f;
        live = (recent, refl);
        own = refl;
        number = b.number_of n;
        holds = refl;
        is_now = a.is_now;
        free = has_window b.manager k s.log refl;
      }

  -- where the newest frame asks, it is carried out
  just_carried : (s : BusState) (bytes answer : List ℕ) → Holds b s → JustAsked s bytes → HasCarried (whole b) (ReachesPort (newest s) answer ∷ []) s (record { bytes = bytes; reply = answer }) (λ t. JustAnswered t answer)
  just_carried s bytes answer h a =
      let which = newest s in
      let n = length s.taken in
      let k : Kept = record { request = request_of b n bytes; reply = answer } in
      let is_new : outcome b.is_above (request_of b n bytes) s.log ≡ IsNew = open_is_new b numbers s h bytes a.first a.free in
      let new : BusState = heard b numbers s n k IsNew in
      let becomes : happens b s (ReachesPort which answer) ≡ new =
      ap (λ (o : Option Frame). at_port b answer o s) a.at
      ∙ ap (λ (c : Content). comes b answer a.frame.request c s) a.holds
      ∙ ap (λ (m : ℕ). hears b m (record { request = request_of b m bytes; reply = answer }) s) a.own
      ∙ ap (heard b numbers s n k) is_new in
      let carries : exchange (carried_now b (slice_get s.frames which) s) answer ≡ Some (record { bytes = bytes; reply = answer }) =
      ap (λ (o : Option Frame). exchange (carried_now b o s) answer) a.at
      ∙ ap (λ (o : Option (List ℕ)). exchange o answer) ((goes_through b numbers s h).carried which a.frame bytes a.at a.own a.holds a.first a.free) in
      (tt, refl, subst (λ (o : Option Frame). IfSome o (IsLive b s)) (sym a.at) a.live, carries, subst (λ (t : BusState). JustAnswered t answer) (sym becomes) (answered_after s bytes answer a))

  -- where it answers, the answer is taken
  just_brought : (s : BusState) (answer : List ℕ) → Holds b s → JustAnswered s answer → HasBrought (whole b) (ReachesManager (newest s) ∷ []) s answer (λ t. is_busy b.manager t.log ≡ false)
  just_brought s answer h a =
      let which = newest s in
      let taken : taken_now b (slice_get s.frames which) s ≡ Some answer =
      ap (λ (o : Option Frame). taken_now b o s) a.at ∙ ((goes_through b numbers s h).answered which a.frame a.number answer a.at a.own a.holds a.is_now).1 in
      (tt, refl, subst (λ (o : Option Frame). IfSome o (IsLive b s)) (sym a.at) a.live, taken, subst (λ (o : Option (List ℕ)). is_busy b.manager (takes_if o s).log ≡ false) (sym taken) a.free)

  pub messages_lose_nothing : LosesNothing (whole b) (by_message b) (whole_is_line b numbers)
  unfolding whole_is_line
  messages_lose_nothing = record {
    Asked = JustAsked;
    Answered = JustAnswered;
    begun = λ s bytes h closed free can. just_begun s bytes h closed free;
    carried = λ s bytes answer h a can fits. just_carried s bytes answer h a;
    brought = λ s answer h a can. just_brought s answer h a;
  }

-- What an event does to what is watched.
use Rattle.std.proofs.Common.{◌≡◌, ◌-◌, ◌<◌, ◌==◌, ◌&&◌, ℕ, zero, suc, Bool, true, false, not, nat_lt, cond, List, [], ◌∷◌, Option, Some, None, refl, sym, ◌∙◌, ap, subst, option_map}
use Rattle.std.specs.Prelude.{slice_get, slice_index, slice_set, IfSome}
use Rattle.std.specs.List.{AllZip}
use Rattle.std.specs.Option.{is_none}
use Rattle.std.proofs.lemmas.Option.{same_Some, none-some}
use Rattle.two_wire.specs.declared.Bus.{Bus}
use Rattle.two_wire.specs.declared.Bus.TheVariants.{Ipmb, Smbus}
use Rattle.mctp_net.specs.declared.packet.Packet.{Packet}
use Rattle.mctp_net.specs.Assembly.{is_ours}
use Rattle.cfg_records.specs.declared.board_file.BoardFile.{BoardFile}
use Rattle.bmc_core.specs.Values.{Value, Asks, Tells, Part, IsFrameOn}
use Rattle.model_lab.specs.Joins.{JoinsLive}
use Rattle.model_lab.specs.Faults.{begun_on}
use Rattle.model_lab.specs.Lab.{LabFrame, Lab as LabModel, port_on}
use Rattle.model_lab.specs.Played.{plans, happens}
use Rattle.model_headline.specs.Plays.{KeepsPremise}
use Rattle.text_lines.specs.declared.event.Event.{Event}
use Rattle.text_lines.specs.declared.event.Event.TheVariants as event
use Rattle.lab_run.specs.declared.frames.SentFrame.{SentFrame}
use Rattle.lab_run.specs.declared.lab_state.Lab.{Lab}
use Rattle.lab_run.specs.declared.part.ManagerPart.{ManagerPart}
use Rattle.lab_run.specs.Shown.{Represents, IsSentFrame}
use Rattle.lab_run.specs.Hearing.{done_on, done_with}
use Rattle.lab_run.specs.Coming.{done_at}
use Rattle.lab_run.specs.Parts.{part_of, part_in, part_at}
use Rattle.lab_play.specs.declared.watch.Watch.{Watch}
use Rattle.lab_play.specs.Watched.{took, took_by, waits_long, opened_in, broken_at, WatchRepresents, TellsNext}
use Rattle.lab_play.proofs.Opening.{opened_by, happens_by, set_one, index_at}
use Rattle.lab_play.proofs.Taking.{breaks, kept_live, broke_live}

-- each frame of a lab that is shown was sent so
frame_sent : (xs : List SentFrame) (ys : List LabFrame) (n : ℕ) (f : LabFrame) → AllZip IsSentFrame xs ys → slice_get ys n ≡ Some f → (s : SentFrame) × IsSentFrame s f
frame_sent [] [] n f all at = absurd (none-some f at)
frame_sent [] (y ∷ ys) n f all at = absurd all
frame_sent (x ∷ xs) [] n f all at = absurd all
frame_sent (x ∷ xs) (y ∷ ys) zero f all at = (x, subst (IsSentFrame x) (same_Some _ _ at) all.0)
frame_sent (x ∷ xs) (y ∷ ys) (suc n) f all at = frame_sent xs ys n f all.1 at

-- a packet goes over SMBus
on_smbus : (on : Bus) (p : Packet) (bytes : List ℕ) → IsFrameOn on (Part p) bytes → on ≡ Smbus
on_smbus Ipmb p bytes is = absurd is
on_smbus Smbus p bytes is = refl

module _ (file : BoardFile) (lab : Lab) (x : LabModel plans) (shows : Represents file lab x) (old : Watch) (opens : WatchRepresents old x) where
  -- ---- no packet comes

  value_keeps : (request : ℕ) (v : Value) → part_of x request v ≡ None → JoinsLive plans x v
  value_keeps request (Asks r) none = tt
  value_keeps request (Tells r) none = tt
  value_keeps request (Part p) none = absurd (none-some _ (sym none))

  frame_keeps : (o : Option LabFrame) → part_in x o ≡ None → IfSome o (λ f. JoinsLive plans x f.value)
  frame_keeps None none = tt
  frame_keeps (Some f) none = value_keeps f.request f.value none

  event_keeps : (e : Event) → part_at x e ≡ None → KeepsPremise file x e
  event_keeps (event.ToBmc number) none = frame_keeps (slice_get x.frames number) none
  event_keeps _ none = tt

  same_still : (o : Option ℕ) (place : ℕ) (Keeps : Type 0) → Keeps → TellsNext o o place Keeps
  same_still None place Keeps keeps = keeps
  same_still (Some first) place Keeps keeps = refl

  pub no_packet : (e : Event) (place : ℕ) → part_at x e ≡ None → WatchRepresents old (happens file e x) × TellsNext old.broken old.broken place (KeepsPremise file x e)
  no_packet e place none = (
    λ tag below. opens tag below ∙ ap (λ (n : ℕ). Some n) (sym (happens_by file e x tag ∙ ap (λ (o : Option ManagerPart). opened_by o x.opened tag) none)),
    same_still old.broken place (KeepsPremise file x e) (event_keeps e none),
  )

  -- ---- a packet comes

  still_watched : (part : ManagerPart) (tag : ℕ) → tag < 8 → slice_get (opened_in part old.opened) tag ≡ Some (opened_by (Some part) x.opened tag)
  still_watched part tag below = by (part.start && part.ours)
    where
      by : (t : Bool) → slice_get (cond t (slice_set old.opened part.tag part.request) old.opened) tag ≡ Some (cond (t && (tag == part.tag)) part.request (x.opened tag))
      by true = set_one old.opened part.tag tag part.request (x.opened tag) (opens tag below)
      by false = opens tag below

  next_told : (o : Option ℕ) (place : ℕ) (b : Bool) (Keeps : Type 0) → (b ≡ false → Keeps) → (b ≡ true → Keeps → ⊥) → TellsNext o (cond (is_none o && b) (Some place) o) place Keeps
  next_told (Some first) place b Keeps keeps breaks = refl
  next_told None place true Keeps keeps breaks = (refl, breaks refl)
  next_told None place false Keeps keeps breaks = keeps refl

  and_three : (a b c d : Bool) → (a && b && c && d) ≡ (a && (b && c && d))
  and_three true b c d = refl
  and_three false b c d = refl

  module _ (place : ℕ) (part : ManagerPart) (taken : Bool) where
    abbrev begun : ℕ
    begun = begun_on plans.words Smbus x.manager.machine

    value_told : (f : LabFrame) → (s : SentFrame) × IsSentFrame s f → (v : Value) → f.value ≡ v → part.tag < 8 → part_of x f.request v ≡ Some part → taken ≡ took (done_on f.on (port_on plans f.on x) v)
        → TellsNext old.broken (broken_at old part begun taken place) place (JoinsLive plans x v)
    value_told f sent (Asks r) is low there took_is = absurd (none-some part there)
    value_told f sent (Tells r) is low there took_is = absurd (none-some part there)
    value_told f sent (Part p) is low there took_is =
        let same : (let m : ManagerPart = record { start = p.start; tag = p.envelope.tag; request = f.request; ours = is_ours x.smbus.eid p } in m) ≡ part = same_Some _ _ there in
        let on : f.on ≡ Smbus = on_smbus f.on p sent.0.bytes (subst (λ (v : Value). IsFrameOn f.on v sent.0.bytes) is sent.1.read) in
        let taken_is : taken ≡ took (done_with x.smbus (Part p)) = took_is ∙ ap (λ (b : Bus). took (done_on b (port_on plans b x) (Part p))) on in
        let was : slice_index old.opened part.tag ≡ x.opened p.envelope.tag =
        index_at old.opened part.tag (x.opened part.tag) (opens part.tag low) ∙ ap (λ (m : ManagerPart). x.opened m.tag) (sym same) in
        let test : (not part.start && taken && waits_long old.opened part.tag begun) ≡ breaks x p =
        ap (λ (m : ManagerPart). not m.start && taken && waits_long old.opened part.tag begun) (sym same)
        ∙ ap (λ (t : Bool). not p.start && t && waits_long old.opened part.tag begun) taken_is
        ∙ ap (λ (n : ℕ). not p.start && took (done_with x.smbus (Part p)) && nat_lt 8 (begun - n)) was in
        subst (λ (b : Bool). TellsNext old.broken (cond b (Some place) old.broken) place (JoinsLive plans x (Part p)))
        (sym (and_three (is_none old.broken) (not part.start) taken (waits_long old.opened part.tag begun) ∙ ap (λ (b : Bool). is_none old.broken && b) test))
        (next_told old.broken place (breaks x p) (JoinsLive plans x (Part p)) (kept_live x p) (broke_live x p))

    frame_told : (number : ℕ) (o : Option LabFrame) → slice_get x.frames number ≡ o → part.tag < 8 → part_in x o ≡ Some part → taken ≡ took_by (option_map (λ (f : LabFrame). done_on f.on (port_on plans f.on x) f.value) o)
        → TellsNext old.broken (broken_at old part begun taken place) place (IfSome o (λ (f : LabFrame). JoinsLive plans x f.value))
    frame_told number None at low there took_is = absurd (none-some part there)
    frame_told number (Some f) at low there took_is = value_told f (frame_sent lab.frames x.frames number f shows.frames at) f.value refl low there took_is

    event_told : (e : Event) → part.tag < 8 → part_at x e ≡ Some part → taken ≡ took_by (done_at x e) → TellsNext old.broken (broken_at old part begun taken place) place (KeepsPremise file x e)
    event_told (event.ToBmc number) low there took_is = frame_told number (slice_get x.frames number) refl low there took_is
    event_told _ low there took_is = absurd (none-some part there)

  pub a_packet : (e : Event) (place : ℕ) (part : ManagerPart) (begun : ℕ) (taken : Bool) (new : Watch) → part.tag < 8 → part_at x e ≡ Some part → begun ≡ begun_on plans.words Smbus x.manager.machine
      → taken ≡ took_by (done_at x e) → new.opened ≡ opened_in part old.opened → new.broken ≡ broken_at old part begun taken place
      → WatchRepresents new (happens file e x) × TellsNext old.broken new.broken place (KeepsPremise file x e)
  a_packet e place part begun taken new low there begun_is took_is opened_is broken_is = (
    λ tag below. ap (λ (l : List ℕ). slice_get l tag) opened_is ∙ still_watched part tag below
        ∙ ap (λ (n : ℕ). Some n) (sym (happens_by file e x tag ∙ ap (λ (o : Option ManagerPart). opened_by o x.opened tag) there)),
    subst (λ (o : Option ℕ). TellsNext old.broken o place (KeepsPremise file x e)) (sym (broken_is ∙ ap (λ (n : ℕ). broken_at old part n taken place) begun_is))
        (event_told place part taken e low there took_is),
  )

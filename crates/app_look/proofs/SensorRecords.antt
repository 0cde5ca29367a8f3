-- Parts of records, records and names, as a reading of the repository comes to them.
use Rattle.std.specs.Prelude.{if◌then◌else◌}
use Rattle.std.proofs.Common.{◌≡◌, ◌∙◌, ◌<◌, ◌+◌, ℕ, Bool, true, false, List, Option, Result, Ok, Err, Some, None, add-one, ap, inl, inr, sym, subst}
use Rattle.two_wire.specs.Codes.{reservation_canceled}
use Rattle.std.specs.Result.{IfErr}
use Rattle.report_words.specs.declared.sensor_names.SensorHead.{SensorHead}
use Rattle.report_words.specs.declared.table_names.Names.{Names}
use Rattle.report_words.specs.SensorNames.{sensor_head}
use Rattle.app_look.specs.declared.asking.Told.{Told}
use Rattle.app_look.specs.declared.asking.Told.TheVariants as told
use Rattle.app_look.specs.declared.sensors.Walk.{Walk}
use Rattle.app_look.specs.declared.session.Session.{Session}
use Rattle.app_look.specs.Asking.{PartTells, word_at}
use Rattle.app_look.specs.SensorRecords.{AreReservedAnew, Cursor, EndsBehind, EndsPart, GoesThrough, GoesToNext, HasNameNow, IsLast, NamesSensor, ReadsIdString, ReadsRecord, ReadsSensors, Reserves, ShowsPart, cursor_at, head_size, most_reserved, part_at, record_in, size_in, wanted_in, wanted_of, wants_sensor, wants_sensors}

-- ---- a part

-- what holds holds of any error
pub of_error : {T E : Type 0} (result : Result T E) (P : Type 0) → P → IfErr result (λ e. P)
of_error (Ok x) P holds = tt
of_error (Err e) P holds = holds

module _ (offset count times : ℕ) (old mid : Cursor) (so_far : AreReservedAnew times offset count old mid) (few : times < most_reserved) where
  -- by a request that is the last
  pub ends_last : (it : Told) (new : Session) → PartTells (part_at mid.walk offset count) mid.session it new → IsLast it → EndsPart offset count old new
  ends_last it new tells last = (times, mid, so_far, inr (few, inl (it, tells, last)))

  -- or by one for another reservation
  pub ends_unreserved : (between new : Session) → PartTells (part_at mid.walk offset count) mid.session (told.Refused reservation_canceled) between → Reserves between None new
      → EndsPart offset count old new
  ends_unreserved between new tells none = (times, mid, so_far, inr (few, inr (between, tells, none)))

-- ---- a record

-- whether the name of its sensor is wanted
pub is_wanted : (names : Names) (reply : List ℕ) (head : SensorHead) → sensor_head (record_in reply) ≡ Some head → wants_sensor names head.number ≡ true
    → wanted_in names reply ≡ Some head
is_wanted names reply head is wants = ap (wanted_of names) is ∙ ap (λ (b : Bool). if b then Some head else None) wants

pub is_unwanted : (names : Names) (reply : List ℕ) (head : SensorHead) → sensor_head (record_in reply) ≡ Some head → wants_sensor names head.number ≡ false
    → wanted_in names reply ≡ None
is_unwanted names reply head is wants = ap (wanted_of names) is ∙ ap (λ (b : Bool). if b then Some head else None) wants

pub is_no_sensor : (names : Names) (reply : List ℕ) → sensor_head (record_in reply) ≡ None → wanted_in names reply ≡ None
is_no_sensor names reply is = ap (wanted_of names) is

module _ (old mid : Cursor) (was : Names) (reply : List ℕ) (begins : ShowsPart 0 head_size old reply mid) (next : ℕ) (next_is : next ≡ word_at reply 0) where
  reads_as : (head : Option SensorHead) (new : Cursor) (is : Names) → wanted_in was reply ≡ head → NamesSensor head (size_in reply) mid was new is → ReadsRecord old was next new is
  reads_as head new is wanted names = record {
    reply = reply;
    mid = mid;
    begins = begins;
    names = subst (λ (h : Option SensorHead). NamesSensor h (size_in reply) mid was new is) (sym wanted) names;
    next_is = next_is;
  }

  -- no name was read in it
  pub reads_no_name : (session : Session) (walk : Walk) (is : Names) → wanted_in was reply ≡ None → session ≡ mid.session → walk ≡ mid.walk → is ≡ was
      → ReadsRecord old was next (cursor_at session walk) is
  reads_no_name session walk is none same_session same_walk same =
      let here = ap (λ (s : Session). cursor_at s walk) same_session ∙ ap (λ (w : Walk). cursor_at mid.session w) same_walk in
      reads_as None (cursor_at session walk) is none (here, same)

  -- the name was that
  pub reads_name : (head : SensorHead) (name : Option (List ℕ)) (new : Cursor) (session : Session) (walk : Walk) (named is : Names) → wanted_in was reply ≡ Some head
      → ReadsIdString head (size_in reply) mid name new → HasNameNow head.number name was named → session ≡ new.session → walk ≡ new.walk → is ≡ named
      → ReadsRecord old was next (cursor_at session walk) is
  reads_name head name new session walk named is wanted reads has same_session same_walk same =
      let here = ap (λ (s : Session). cursor_at s walk) same_session ∙ ap (λ (w : Walk). cursor_at new.session w) same_walk in
      subst (λ (c : Cursor). ReadsRecord old was next c is) (sym here)
      (subst (λ (n : Names). ReadsRecord old was next new n) (sym same) (reads_as (Some head) new named wanted (name, reads, has)))

-- ---- the repository

-- it was reserved, and so many records were read behind that
abbrev pub GoesBehind : (old : Session) (was : Names) (count : ℕ) (mid : Cursor) (known : Names) → Type 0
GoesBehind old was count mid known =
    (number : ℕ) × (first : Session) × Reserves old (Some number) first × GoesThrough count (cursor_at first (record { reservation = number; id = 0 })) was mid known

-- one more was, and there is another
pub goes_to_next : (old : Session) (was : Names) (count : ℕ) (mid : Cursor) (known : Names) (new : Cursor) (is : Names) → GoesBehind old was count mid known
    → GoesToNext mid known new is → GoesBehind old was (count + 1) new is
goes_to_next old was count mid known new is (number, first, reserves, through) goes =
    subst (λ (n : ℕ). GoesBehind old was n new is) (sym (add-one count)) (number, first, reserves, (mid, known, through, goes))

-- the reading ended behind them
pub reads_sensors : (old : Session) (was : Names) (count : ℕ) (mid : Cursor) (known : Names) (new : Session) (is : Names) → wants_sensors was ≡ true
    → GoesBehind old was count mid known → EndsBehind count mid known new is → ReadsSensors old was new is
reads_sensors old was count mid known new is wants (number, first, reserves, through) ends =
    inr (wants, inr (number, first, reserves, record { count = count; mid = mid; known = known; through = through; ends = ends }))

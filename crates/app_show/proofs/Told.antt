-- Records that are read one after another.
use Rattle.std.proofs.Common.{◌≡◌, ◌∙◌, ◌<◌, ◌≤◌, ◌++◌, ℕ, Bool, true, false, List, [], ◌∷◌, Option, Some, None, Result, Ok, Err, Vec, refl, sym, ap, subst, arith}
use Rattle.std.specs.Prelude.{IfErr, IfOk, IsErrAnd, OnOk, map}
use Rattle.std.specs.declared.alloc.AllocError.{AllocError}
use Rattle.std.specs.declared.alloc.Global.{Global}
use Rattle.std.proofs.lemmas.List.{map-append}
use Rattle.std.proofs.lemmas.Result.{IfErr-weaker, on_ok_weaker}
use Rattle.record_base.specs.declared.key.Key.{Key}
use Rattle.record_base.specs.Requests.{byte_at}
use Rattle.undo_look.specs.declared.looker.Seen.{Seen}
use Rattle.undo_look.specs.declared.looker.Seen.TheVariants.{Shown, Refused as IsRefused}
use Rattle.undo_look.specs.declared.stage.Stage.{Stage}
use Rattle.undo_look.specs.declared.stage.Stage.TheVariants as stage
use Rattle.undo_look.specs.Looks.{IsSeen}
use Rattle.app_look.specs.declared.look_driver.LookEnd.{LookEnd}
use Rattle.app_look.specs.declared.session.Session.{Session}
use Rattle.app_look.specs.Findings.{bus_at}
use Rattle.app_look.specs.Looking.{LooksAt}
use Rattle.app_show.specs.declared.backup.Backup.{Backup}
use Rattle.app_show.specs.declared.reading.Answer.{Answer}
use Rattle.app_show.specs.declared.reading.ReadFault.{ReadFault}
use Rattle.app_show.specs.declared.reading.ReadFault.TheVariants as fault
use Rattle.app_show.specs.declared.reading.Reader.{Reader}
use Rattle.app_show.specs.Asking.{Asking, AsksEach, AsksOne, Begins, Told, with_next}
use Rattle.app_show.specs.Backup.{Takes}
use Rattle.app_show.specs.Reading.{Look, LooksEach, Reads, ReadsNamed, ReadsOn, RemarksRefusal, Runs, StopsBy, StopsNamed, TakesLook, TakesSeen, TellsBy, TellsEach, first_at, first_of, is_absence, is_unheard, most_silent, told_of}
use Rattle.app_show.proofs.AskedFor.{begins_join, begins_wider, begun, each_none}

-- ---- one behind another

looks_then : (first second : List Look) (old mid new : Session) → LooksEach first old mid → LooksEach second mid new → LooksEach (first ++ second) old new
looks_then [] second old mid new same then = subst (λ (s : Session). LooksEach second s new) same then
looks_then (look ∷ first) second old mid new (at, rest) then = (at, looks_then first second look.left mid new rest then)

tells_then : (first second : List Look) (old mid new : Backup) → TellsEach first old mid → TellsEach second mid new → TellsEach (first ++ second) old new
tells_then [] second old mid new same then = subst (λ (b : Backup). TellsEach second b new) same then
tells_then (look ∷ first) second old mid new (next, tells, rest) then = (next, tells, tells_then first second next mid new rest then)

runs_then : (first second : List Look) (before mid behind : ℕ) → Runs before first mid → Runs mid second behind → Runs before (first ++ second) behind
runs_then [] second before mid behind same then = subst (λ (n : ℕ). Runs n second behind) same then
runs_then (look ∷ first) second before mid behind (few, rest) then =
    (few, runs_then first second (with_next (is_unheard look.left.looker.stage) before) mid behind rest then)

-- two parts of what is asked for are another
abbrev pub Joins : (first second all : Asking) → Type 0
Joins first second all = (before behind : List Told) → first before → second behind → all (before ++ behind)

-- what is asked for begins something else
abbrev pub Widens : (some all : Asking) → Type 0
Widens some all = (told : List Told) → some told → Begins all told

asked_then : (first second all : Asking) → Joins first second all → (before behind : List Look) → first (map told_of before) → second (map told_of behind) → all (map told_of (before ++ behind))
asked_then first second all joins before behind one other = subst all (sym (map-append told_of before behind)) (joins (map told_of before) (map told_of behind) one other)

reads_then : (first second all : Asking) → Joins first second all → (from via to : Session) (old mid new : Reader) → Reads first from via old mid → Reads second via to mid new → Reads all from to old new
reads_then first second all joins from via to old mid new one other = record {
  looks = one.looks ++ other.looks;
  made = looks_then one.looks other.looks from via to one.made other.made;
  told = tells_then one.looks other.looks old.backup mid.backup new.backup one.told other.told;
  runs = runs_then one.looks other.looks old.silent mid.silent new.silent one.runs other.runs;
  asked = asked_then first second all joins one.looks other.looks one.asked other.asked;
}

-- no record is read
pub reads_none : (asking : Asking) → asking [] → (from : Session) (reader : Reader) → reader.silent < most_silent → ReadsOn asking from from reader reader
reads_none asking none from reader few = record { reads = record { looks = []; made = refl; told = refl; runs = refl; asked = none }; goes_on = few }

-- records are read, and then others
pub goes_then : (first second all : Asking) → Joins first second all → (from via to : Session) (old mid new : Reader) → ReadsOn first from via old mid → ReadsOn second via to mid new
    → ReadsOn all from to old new
goes_then first second all joins from via to old mid new one other =
    record { reads = reads_then first second all joins from via to old mid new one.reads other.reads; goes_on = other.goes_on }

-- those that were read are what was to be asked for
pub goes_as : (some all : Asking) → ((told : List Told) → some told → all told) → (from to : Session) (old new : Reader) → ReadsOn some from to old new → ReadsOn all from to old new
goes_as some all same from to old new on = record {
  reads = record { looks = on.reads.looks; made = on.reads.made; told = on.reads.told; runs = on.reads.runs; asked = same (map told_of on.reads.looks) on.reads.asked };
  goes_on = on.goes_on;
}

-- records are read, and then reading ends
pub stops_then : (why : ReadFault) (first second all : Asking) → Joins first second (Begins all) → (from via to : Session) (old mid new : Reader) → ReadsOn first from via old mid
    → StopsBy second why via to mid new → StopsBy all why from to old new
stops_then fault.Silent first second all joins from via to old mid new on (reads, most) =
    (reads_then first (Begins second) (Begins all) (begins_join first second all joins) from via to old mid new on.reads reads, most)
stops_then fault.Memory first second all joins from via to old mid new on (looks, made, asked) = (
  on.reads.looks ++ looks,
  looks_then on.reads.looks looks from via to on.reads.made made,
  asked_then first (Begins second) (Begins all) (begins_join first second all joins) on.reads.looks looks on.reads.asked asked,
)

-- it ends where not all was to be asked for yet
pub stops_wider : (why : ReadFault) (some all : Asking) → Widens some all → (from to : Session) (old new : Reader) → StopsBy some why from to old new → StopsBy all why from to old new
stops_wider fault.Silent some all wider from to old new (reads, most) =
    (record { looks = reads.looks; made = reads.made; told = reads.told; runs = reads.runs; asked = begins_wider some all wider (map told_of reads.looks) reads.asked }, most)
stops_wider fault.Memory some all wider from to old new (looks, made, asked) = (looks, made, begins_wider some all wider (map told_of looks) asked)

-- a call that failed says why reading ends
same_fault : {T : Type 0} (result : Result T ReadFault) (why : ReadFault) (asking : Asking) (from to : Session) (old new : Reader) → IsErrAnd result (λ (on : ReadFault). on ≡ why)
    → StopsBy asking why from to old new → IfErr result (λ (on : ReadFault). StopsBy asking on from to old new)
same_fault (Ok value) why asking from to old new is stops = tt
same_fault (Err on) why asking from to old new is stops = subst (λ (w : ReadFault). StopsBy asking w from to old new) (sym is) stops

pub stops_on : {T : Type 0} (result : Result T ReadFault) (why : ReadFault) (first second all : Asking) → Joins first second (Begins all) → (from via to : Session) (old mid new : Reader)
    → IsErrAnd result (λ (on : ReadFault). on ≡ why) → ReadsOn first from via old mid → StopsBy second why via to mid new → IfErr result (λ (on : ReadFault). StopsBy all on from to old new)
stops_on result why first second all joins from via to old mid new is on stops =
    same_fault result why all from to old new is (stops_then why first second all joins from via to old mid new on stops)

pub stops_first : {T : Type 0} (result : Result T ReadFault) (why : ReadFault) (some all : Asking) → Widens some all → (from to : Session) (old new : Reader)
    → IsErrAnd result (λ (on : ReadFault). on ≡ why) → StopsBy some why from to old new → IfErr result (λ (on : ReadFault). StopsBy all on from to old new)
stops_first result why some all wider from to old new is stops = same_fault result why all from to old new is (stops_wider why some all wider from to old new stops)

-- ---- records whose names are in memory

-- those of the names are read
pub named_on : (names : Result (Vec Key Global) AllocError) (keys : List Key) → IfOk names (λ (all : Vec Key Global). all.items ≡ keys) → (from to : Session) (old new : Reader)
    → ReadsNamed names from to old new → ReadsOn (AsksEach keys) from to old new
named_on (Ok all) keys are from to old new on = subst (λ (l : List Key). ReadsOn (AsksEach l) from to old new) are on
named_on (Err refused) keys are from to old new on = absurd on

pub named_stops : (why : ReadFault) (names : Result (Vec Key Global) AllocError) (keys : List Key) → IfOk names (λ (all : Vec Key Global). all.items ≡ keys) → (from to : Session)
    (old new : Reader) → StopsNamed names why from to old new → StopsBy (AsksEach keys) why from to old new
named_stops why (Ok all) keys are from to old new stops = subst (λ (l : List Key). StopsBy (AsksEach l) why from to old new) are stops
named_stops why (Err refused) keys are from to old new (is, same) =
    subst (λ (w : ReadFault). StopsBy (AsksEach keys) w from to old new) (sym is) ([], same, each_none keys)

-- ---- a call at the end, which may fail

pub goes_by : {T : Type 0} (result : Result T ReadFault) (first second all : Asking) → Joins first second all → (from via to : Session) (old mid new : Reader) → ReadsOn first from via old mid
    → OnOk result (ReadsOn second via to mid new) → OnOk result (ReadsOn all from to old new)
goes_by result first second all joins from via to old mid new on then = on_ok_weaker result (goes_then first second all joins from via to old mid new on) then

pub stops_by : {T : Type 0} (result : Result T ReadFault) (first second all : Asking) → Joins first second all → (from via to : Session) (old mid new : Reader) → ReadsOn first from via old mid
    → IfErr result (λ (why : ReadFault). StopsBy second why via to mid new) → IfErr result (λ (why : ReadFault). StopsBy all why from to old new)
stops_by result first second all joins from via to old mid new on then =
    IfErr-weaker result (λ (why : ReadFault). StopsBy second why via to mid new) (λ (why : ReadFault). StopsBy all why from to old new)
    (λ why stops. stops_then why first second all (λ before behind one other. begun all (before ++ behind) (joins before behind one other)) from via to old mid new on stops) then

-- the same of records whose names are in memory
pub goes_by_names : {T : Type 0} (result : Result T ReadFault) (names : Result (Vec Key Global) AllocError) (keys : List Key) → IfOk names (λ (all : Vec Key Global). all.items ≡ keys)
    → (first all : Asking) → Joins first (AsksEach keys) all → (from via to : Session) (old mid new : Reader) → ReadsOn first from via old mid → OnOk result (ReadsNamed names via to mid new)
    → OnOk result (ReadsOn all from to old new)
goes_by_names result names keys are first all joins from via to old mid new on then =
    goes_by result first (AsksEach keys) all joins from via to old mid new on (on_ok_weaker result (named_on names keys are via to mid new) then)

pub stops_by_names : {T : Type 0} (result : Result T ReadFault) (names : Result (Vec Key Global) AllocError) (keys : List Key) → IfOk names (λ (all : Vec Key Global). all.items ≡ keys)
    → (first all : Asking) → Joins first (AsksEach keys) all → (from via to : Session) (old mid new : Reader) → ReadsOn first from via old mid
    → IfErr result (λ (why : ReadFault). StopsNamed names why via to mid new) → IfErr result (λ (why : ReadFault). StopsBy all why from to old new)
stops_by_names result names keys are first all joins from via to old mid new on then =
    stops_by result first (AsksEach keys) all joins from via to old mid new on
    (IfErr-weaker result (λ (why : ReadFault). StopsNamed names why via to mid new) (λ (why : ReadFault). StopsBy (AsksEach keys) why via to mid new)
    (λ why stops. named_stops why names keys are via to mid new stops) then)

-- ---- one look

told_one : (key : Key) (at : Stage) (shown : List ℕ) (seen : Option Seen) (answer : Answer) (old new : Reader) → IsSeen at shown seen → TakesSeen key seen answer old new
    → TellsBy key at shown old.backup new.backup
told_one key (stage.Found of) shown (Some (Shown bytes)) answer old new is takes = subst (λ (bytes : List ℕ). Takes key bytes old.backup new.backup) is takes.takes
told_one key (stage.Found of) shown (Some (IsRefused code)) answer old new is takes = absurd is
told_one key (stage.Found of) shown None answer old new is takes = absurd is
told_one key (stage.Refused of code) shown (Some (IsRefused told)) answer old new is takes =
    subst (λ (n : ℕ). RemarksRefusal (is_absence (bus_at key) n) key n old.backup new.backup) is takes.takes
told_one key (stage.Refused of code) shown (Some (Shown bytes)) answer old new is takes = absurd is
told_one key (stage.Refused of code) shown None answer old new is takes = absurd is
told_one key stage.AtStart shown None answer old new is takes = takes.takes
told_one key stage.AtStart shown (Some seen) answer old new is takes = absurd is
told_one key (stage.Opened heeded of parts asked) shown None answer old new is takes = takes.takes
told_one key (stage.Opened heeded of parts asked) shown (Some seen) answer old new is takes = absurd is

ran_one : (key : Key) (at : Stage) (shown : List ℕ) (seen : Option Seen) (answer : Answer) (old new : Reader) → IsSeen at shown seen → TakesSeen key seen answer old new
    → new.silent ≡ with_next (is_unheard at) old.silent
ran_one key (stage.Found of) shown (Some (Shown bytes)) answer old new is takes = takes.quiet
ran_one key (stage.Found of) shown (Some (IsRefused code)) answer old new is takes = absurd is
ran_one key (stage.Found of) shown None answer old new is takes = absurd is
ran_one key (stage.Refused of code) shown (Some (IsRefused told)) answer old new is takes = takes.quiet
ran_one key (stage.Refused of code) shown (Some (Shown bytes)) answer old new is takes = absurd is
ran_one key (stage.Refused of code) shown None answer old new is takes = absurd is
ran_one key stage.AtStart shown None answer old new is takes = takes.more
ran_one key stage.AtStart shown (Some seen) answer old new is takes = absurd is
ran_one key (stage.Opened heeded of parts asked) shown None answer old new is takes = takes.more
ran_one key (stage.Opened heeded of parts asked) shown (Some seen) answer old new is takes = absurd is

first_one : (key : Key) (at : Stage) (shown : List ℕ) (seen : Option Seen) (answer : Answer) (old new : Reader) → IsSeen at shown seen → TakesSeen key seen answer old new
    → first_at at shown ≡ first_of answer
first_one key (stage.Found of) shown (Some (Shown bytes)) answer old new is takes = ap (λ (l : List ℕ). Some (byte_at l 0)) (sym is) ∙ ap first_of (sym takes.answers)
first_one key (stage.Found of) shown (Some (IsRefused code)) answer old new is takes = absurd is
first_one key (stage.Found of) shown None answer old new is takes = absurd is
first_one key (stage.Refused of code) shown (Some (IsRefused told)) answer old new is takes = ap first_of (sym takes.answers)
first_one key (stage.Refused of code) shown (Some (Shown bytes)) answer old new is takes = absurd is
first_one key (stage.Refused of code) shown None answer old new is takes = absurd is
first_one key stage.AtStart shown None answer old new is takes = ap first_of (sym takes.answers)
first_one key stage.AtStart shown (Some seen) answer old new is takes = absurd is
first_one key (stage.Opened heeded of parts asked) shown None answer old new is takes = ap first_of (sym takes.answers)
first_one key (stage.Opened heeded of parts asked) shown (Some seen) answer old new is takes = absurd is

abbrev alone : Key → (first : Option ℕ) → List Told
alone key first = record { key = key; first = first } ∷ []

-- a record was looked at, and what the look came to was taken
reads_one : (asking : Asking) (key : Key) (end : LookEnd) (from to : Session) (seen : Option Seen) (answer : Answer) (old new : Reader) → old.silent < most_silent → LooksAt from key end to
    → IsSeen to.looker.stage to.looker.shown seen → TakesSeen key seen answer old new → asking (alone key (first_at to.looker.stage to.looker.shown))
    → Reads asking from to old new
reads_one asking key end from to seen answer old new few looks is takes asks = record {
  looks = record { key = key; end = end; left = to } ∷ [];
  made = (looks, refl);
  told = (new.backup, told_one key to.looker.stage to.looker.shown seen answer old new is takes, refl);
  runs = (few, ran_one key to.looker.stage to.looker.shown seen answer old new is takes);
  asked = asks;
}

-- memory was refused behind a look
pub stops_behind : (key : Key) (end : LookEnd) (from to : Session) (old new : Reader) → LooksAt from key end to → StopsBy (AsksEach (key ∷ [])) fault.Memory from to old new
stops_behind key end from to old new looks = (record { key = key; end = end; left = to } ∷ [], (looks, refl), ([], refl))

-- so many weren't answered behind a look, and as many as end the reading
most_then : (unheard : Bool) (before behind : ℕ) → before < most_silent → behind ≡ with_next unheard before → most_silent ≤ behind → behind ≡ most_silent
most_then true before behind few is many = omega arith
most_then false before behind few is many = absurd (omega arith)

-- a record was looked at, and reading goes on
pub goes_one : (key : Key) (end : LookEnd) (from to : Session) (answer : Answer) (old new : Reader) → old.silent < most_silent → LooksAt from key end to → TakesLook key to answer old new
    → new.silent < most_silent → ReadsOn (AsksOne key (first_of answer)) from to old new
goes_one key end from to answer old new few looks (seen, is, takes) less =
    let same = first_one key to.looker.stage to.looker.shown seen answer old new is takes in
    record {
      reads = reads_one (AsksOne key (first_of answer)) key end from to seen answer old new few looks is takes (ap (alone key) same);
      goes_on = less;
    }

-- or it ends
pub stops_one : (key : Key) (end : LookEnd) (from to : Session) (answer : Answer) (old new : Reader) → old.silent < most_silent → LooksAt from key end to → TakesLook key to answer old new
    → most_silent ≤ new.silent → StopsBy (AsksEach (key ∷ [])) fault.Silent from to old new
stops_one key end from to answer old new few looks (seen, is, takes) many = (
  reads_one (Begins (AsksEach (key ∷ []))) key end from to seen answer old new few looks is takes ([], refl),
  most_then (is_unheard to.looker.stage) old.silent new.silent few (ran_one key to.looker.stage to.looker.shown seen answer old new is takes) many,
)

-- Inputs have one account, as far as its text goes.
use Rattle.std.proofs.Common.{◌≡◌, ◌∙◌, ℕ, Bool, not, List, [], ◌∷◌, ◌++◌, length, map, reverse, codes, ap, refl, subst, sym, map-id}
use Rattle.std.specs.List.{AllZip, flat_map}
use Rattle.std.specs.Fmt.{decimal}
use Rattle.std.proofs.lemmas.List.{length-map, length-reverse}
use Rattle.std.proofs.lemmas.Simd.{map-map}
use Rattle.text_lines.specs.Cuts.{ended}
use Rattle.cfg_records.specs.Records.{Pair}
use Rattle.record_base.specs.declared.message.Asked.{Asked}
use Rattle.record_kinds.specs.Series.{Series, Reads, Sends}
use Rattle.model_undo.specs.PhaseNames.{phase_name}
use Rattle.undo_core.specs.Shown.{backs}
use Rattle.text_lines.specs.UndoText.{line_of}
use Rattle.lab_run.specs.declared.ages.FrameAge.{FrameAge}
use Rattle.model_lab.specs.Lab.{LabFrame}
use Rattle.lab_run.specs.declared.frames.SentFrame.{SentFrame}
use Rattle.model_lab.specs.Played.{Told, Ending, Whole, Stops}
use Rattle.lab_run.specs.Shown.{IsSentFrame}
use Rattle.model_headline.specs.Plays.{taken_by, TellsPremise}
use Rattle.cfg_records.specs.Changed.{is_value}
use Rattle.text_lines.specs.RecordsLine.{records_line}
use Rattle.app_play.specs.declared.account.Account.{Account}
use Rattle.app_play.specs.Lines.{said, undo_lines, shown, premised, ending, text_of}
use Rattle.app_play.specs.Account.{AreChanged, AccountOf, IsAccountOf, status_of}
use Rattle.app_play.specs.Determined.{OneText}
use Rattle.app_play.specs.Run.{begun_with, RecountsPlay}
use Rattle.app_play.proofs.OnePremise.{one_premise}
use Rattle.app_play.proofs.AlikeEnds.{OneEnding, same_stopped}
use Rattle.app_play.proofs.Counted.{same_count}

-- ---- the frames

-- lists are alike in what is made of their items, where that is known by the items of one list
pub same_made : {A B C : Type 0} (make : A → C) (R : A → B → Type 0) → ((x y : A) (b : B) → R x b → R y b → make x ≡ make y)
    → (xs ys : List A) (bs : List B) → AllZip R xs bs → AllZip R ys bs → map make xs ≡ map make ys
same_made make R one [] [] [] all also = refl
same_made make R one [] (y ∷ ys) [] all also = absurd also
same_made make R one [] ys (b ∷ bs) all also = absurd all
same_made make R one (x ∷ xs) ys [] all also = absurd all
same_made make R one (x ∷ xs) [] (b ∷ bs) all also = absurd also
same_made make R one (x ∷ xs) (y ∷ ys) (b ∷ bs) all also =
    let first : make x ≡ make y = one x y b all.0 also.0 in
    let rest : map make xs ≡ map make ys = same_made make R one xs ys bs all.1 also.1 in
    λ i. first i ∷ rest i

same_mark : (mark other : FrameAge) → mark.on ≡ other.on → mark.request ≡ other.request → mark.idles ≡ other.idles → mark ≡ other
same_mark mark other on request idles = λ i. record { on = on i; request = request i; idles = idles i }

-- a frame of the lab's model was sent in one way
same_frame : (sent other : SentFrame) (f : LabFrame) → IsSentFrame sent f → IsSentFrame other f → sent ≡ other
same_frame sent other f is also =
    let way : sent.way ≡ other.way = sym is.is.way ∙ also.is.way in
    let mark : sent.mark ≡ other.mark =
    same_mark sent.mark other.mark (sym is.is.mark.on ∙ also.is.mark.on) (sym is.is.mark.request ∙ also.is.mark.request) (sym is.is.mark.idles ∙ also.is.mark.idles) in
    let bytes : sent.bytes ≡ other.bytes = is.is.bytes ∙ sym also.is.bytes in
    λ i. record { way = way i; mark = mark i; bytes = bytes i }

same_frames : (frames others : List SentFrame) (sent : List LabFrame) → AllZip IsSentFrame frames sent → AllZip IsSentFrame others sent → frames ≡ others
same_frames frames others sent are also = sym (map-id frames) ∙ same_made (λ (f : SentFrame). f) IsSentFrame same_frame frames others sent are also ∙ map-id others

-- ---- the requests that undo

-- the line of a series that undoes: that of the request that it carries out
abbrev line_in : Series → List ℕ
line_in (Sends asked) = line_of asked
line_in (Reads key) = []

-- the lines of series that go in this order
abbrev lines_for : List Series → List (List ℕ)
lines_for series = said (codes "undo") (decimal (length series)) ∷ map line_in series

undo_said : (requests : List Asked) → undo_lines requests ≡ lines_for (backs requests)
undo_said requests =
    let number : length requests ≡ length (backs requests) = sym (length-map (reverse requests) Sends ∙ length-reverse requests) in
    let each : map line_of (reverse requests) ≡ map line_in (backs requests) = sym (map-map line_in Sends (reverse requests)) in
    λ i. said (codes "undo") (decimal (number i)) ∷ each i

-- ---- the records

-- told of one lab, the changed records are so many
same_changed : (number other : ℕ) (told : Told) → AreChanged number told → AreChanged other told → number ≡ other
same_changed number other told is also =
    is.counted
    ∙ same_count (λ (pair : Pair). not (is_value pair.1 (told.records pair.0))) is.start also.start is.once also.once (sym is.began ∙ also.began)
    ∙ sym also.counted

-- ---- the text

-- accounts of what is told of one lab have one text, where they stop alike
same_lines : (frames premises : Bool) (account other : Account) (told : Told) → AccountOf account told → AccountOf other told → account.broken ≡ other.broken → account.stopped ≡ other.stopped
    → text_of frames premises account ≡ text_of frames premises other
same_lines frames premises account other told is also broken stopped =
    let now : account.phase ≡ other.phase = is.phase ∙ sym also.phase in
    let sent : account.frames.now ≡ other.frames.now = same_frames account.frames.now other.frames.now told.frames is.frames also.frames in
    let undo : undo_lines account.undo.now.members ≡ undo_lines other.undo.now.members =
    undo_said account.undo.now.members ∙ ap lines_for (is.undo ∙ sym also.undo) ∙ sym (undo_said other.undo.now.members) in
    let changed : account.changed ≡ other.changed = same_changed account.changed other.changed told is.changed also.changed in
    λ i. flat_map ended (
    said (codes "phase") (phase_name (now i))
    ∷ said (codes "frames") (decimal (length (sent i)))
    ∷ (undo i ++ records_line (changed i) ∷ (shown frames (sent i) ++ (premised premises (broken i) (stopped i) ++ ending (stopped i))))
    )

-- what accounts of an ending say of what is told
told_in : (account other : Account) (ending : Ending) → IsAccountOf account ending → IsAccountOf other ending → (told : Told) × AccountOf account told × AccountOf other told
told_in account other (Whole told) is also = (told, is.0, also.0)
told_in account other (Stops cause at told) is also = (told, is.0, also.0)

pub one_account : OneEnding → (frames premises : Bool) → OneText (RecountsPlay frames premises)
one_account one frames premises inputs text other_text status other_status told more =
    let same : more.ending ≡ told.ending =
    one inputs.file inputs.plan.steps inputs.plan.retries inputs.events more.ending told.ending more.played told.played in
    let is : IsAccountOf more.account told.ending = subst (IsAccountOf more.account) same more.is in
    let stopped : told.account.stopped ≡ more.account.stopped = same_stopped told.account more.account told.ending told.is is in
    let tells = told_in told.account more.account told.ending told.is is in
    let events = inputs.events in
    let premise : TellsPremise inputs.file (taken_by events told.ending) (begun_with inputs) more.account.broken =
    subst (λ (e : Ending). TellsPremise inputs.file (taken_by events e) (begun_with inputs) more.account.broken) same more.premise in
    let broken : told.account.broken ≡ more.account.broken =
    one_premise inputs.file (taken_by events told.ending) (begun_with inputs) told.account.broken more.account.broken told.premise premise in
    let lines : text_of frames premises told.account ≡ text_of frames premises more.account = same_lines frames premises told.account more.account tells.0 tells.1 tells.2 broken stopped in
    (told.said ∙ lines ∙ sym more.said, told.ended ∙ ap status_of stopped ∙ sym more.ended)

use Rattle.std.specs.Prelude.{is_none}
use Rattle.std.proofs.Common.{◌≡◌, ◌+◌, ◌<◌, [], ◌∷◌, inl, inr, add-one, arith}
use Rattle.record_base.specs.declared.key.Key.TheVariants.{BiosAttribute}
use Rattle.app_show.specs.Asking.{AsksEach, AsksHandles, AsksOne, handle_count}
use Rattle.app_show.specs.Reading.{ReadsOn, first_of}
use Rattle.app_show.proofs.AskedFor.{HandlesBefore, all_missing, handles_end, handles_more, handles_none, handles_stop}
use Rattle.app_show.proofs.Told.{goes_as, goes_then, reads_none, stops_on}
use Rattle.app_show.proofs.reading.Reader.read_attributes.Goals as goal
use Rattle.app_show.proofs.reading.Reader.read_attributes.Goals.{After-absent_behind-absent}

-- one handle more was asked for
more : (c : After-absent_behind-absent) → c.loop-handle.handle < handle_count
    → ReadsOn (HandlesBefore (c.loop-handle.handle + 1) c.absent_behind-absent.result) c.args.session.now c.read.new.session c.args.self.now c.read.new.self
more c fits =
    let handle = c.loop-handle.handle in
    let missing = c.loop-handle.absent in
    let first = first_of c.in_ok-answer.answer in
    goes_then (HandlesBefore handle missing) (AsksOne (BiosAttribute handle) first) (HandlesBefore (handle + 1) c.absent_behind-absent.result)
    (handles_more handle missing (handle + 1) c.absent_behind-absent.result first c.loop-handle.invariant.few fits (add-one handle) c.absent_behind-absent.ensures) c.args.session.now c.loop-handle.session
    c.read.new.session c.args.self.now c.loop-handle.self c.read.new.self c.loop-handle.invariant.reads c.in_ok-answer.ensures.read

pub loop-handle-init : goal.loop-handle-init
loop-handle-init c = record { reads = reads_none (HandlesBefore 0 0) handles_none c.args.session.now c.args.self.now c.requires; few = omega arith }

pub loop-handle-preserved : goal.loop-handle-preserved
loop-handle-preserved c = record { reads = more (goal.at.loop-handle-preserved c).After-absent_behind-absent (omega arith); few = omega arith }

pub returns-in_err-answer-clause-stopped : goal.returns-in_err-answer-clause-stopped
returns-in_err-answer-clause-stopped c =
    let handle = c.loop-handle.handle in
    let missing = c.loop-handle.absent in
    stops_on c.from_residual.result _ (HandlesBefore handle missing) (AsksEach (BiosAttribute handle ∷ [])) (AsksHandles 0 0)
    (handles_stop handle missing c.loop-handle.invariant.few (omega arith)) c.args.session.now c.loop-handle.session c.read.new.session c.args.self.now c.loop-handle.self c.read.new.self
    c.from_residual.ensures.1 c.loop-handle.invariant.reads c.in_err-answer.ensures.stopped

pub returns-then-absent-ge-MOST_ABSENT-clause-read : goal.returns-then-absent-ge-MOST_ABSENT-clause-read
returns-then-absent-ge-MOST_ABSENT-clause-read c =
    let handle = c.loop-handle.handle in
    let missing = c.loop-handle.absent in
    let many = all_missing (is_none (first_of c.in_ok-answer.answer)) missing c.absent_behind-absent.result c.loop-handle.invariant.few c.absent_behind-absent.ensures c.if-absent-ge-MOST_ABSENT.true in
    goes_as (HandlesBefore (handle + 1) c.absent_behind-absent.result) (AsksHandles 0 0) (λ told. handles_end (handle + 1) c.absent_behind-absent.result told (inl many)) c.args.session.now c.read.new.session
    c.args.self.now c.read.new.self (more (goal.at.returns-then-absent-ge-MOST_ABSENT-clause-read c).After-absent_behind-absent (omega arith))

pub returns-clause-read : goal.returns-clause-read
returns-clause-read c =
    let handle = c.loop-handle.handle in
    let last : handle ≡ handle_count = omega arith in
    goes_as (HandlesBefore handle c.loop-handle.absent) (AsksHandles 0 0) (λ told. handles_end handle c.loop-handle.absent told (inr last)) c.args.session.now c.loop-handle.session
    c.args.self.now c.loop-handle.self c.loop-handle.invariant.reads

pub returns-else-absent-ge-MOST_ABSENT-clause-read : goal.returns-else-absent-ge-MOST_ABSENT-clause-read
returns-else-absent-ge-MOST_ABSENT-clause-read c =
    let handle = c.loop-handle.handle in
    let last : handle + 1 ≡ handle_count = omega arith in
    goes_as (HandlesBefore (handle + 1) c.absent_behind-absent.result) (AsksHandles 0 0) (λ told. handles_end (handle + 1) c.absent_behind-absent.result told (inr last)) c.args.session.now
    c.read.new.session c.args.self.now c.read.new.self (more (goal.at.returns-else-absent-ge-MOST_ABSENT-clause-read c).After-absent_behind-absent (omega arith))

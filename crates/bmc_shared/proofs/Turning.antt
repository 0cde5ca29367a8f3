-- A worker's turns, one after another.
use Rattle.std.specs.Prelude.{Result, Ok, Option, Some, None}
use Rattle.std.proofs.Common.{◌≡◌, ◌≤◌, ◌<◌, refl, ◌+◌, ◌++◌, ℕ, suc, List, [], ◌∷◌, length, ap, sym, ◌∙◌, subst, arith, lit≤}
use Rattle.std.proofs.lemmas.List.{append_assoc, length-append, append-nil}
use Rattle.bmc_core.specs.declared.out.Out.{Out}
use Rattle.bmc_core.specs.declared.step.Step.TheVariants.{Ask, Done}
use Rattle.bmc_core.specs.declared.port.Port.{Port}
use Rattle.bmc_core.specs.declared.port.Pending.{Pending}
use Rattle.bmc_core.specs.Port.{IsStep}
use Rattle.wire_links.specs.declared.link.Counts.{Counts}
use Rattle.wire_links.specs.declared.link.Heard.{Heard}
use Rattle.wire_links.specs.declared.link.Heard.TheVariants.{Frame}
use Rattle.wire_links.specs.declared.link.LinkFault.{LinkFault}
use Rattle.wire_links.specs.declared.link.Link.{Ghosts}
use Rattle.wire_links.specs.Counted.{one_more, counted_on, after_next}
use Rattle.wire_links.specs.Trace.{Gives, GivesFrame, frame_heard}
use Rattle.wire_links.proofs.Counting.{counted_twice}
use Rattle.bmc_shared.specs.declared.event.Call.{Call}
use Rattle.bmc_shared.specs.Serving.{CallsNext, CarriesRequest, MakesTurn, OneTurnOver, TurnsOver, EndsWithoutRoom, ServesFrames, ServesTo, MadeAll, TakesHeard, WorkerStep, StepOver, WorkerRun, frames_in, frames_of}
use Rattle.bmc_shared.specs.declared.worker.End.{End}
use Rattle.bmc_shared.specs.declared.worker.End.TheVariants.{Turns, Full}

-- frames that are heard, and then others
pub serves_both : (first later : List (List ℕ)) (before mid after : Port) (calls rest : List Call)
    → ServesFrames first before calls mid → ServesFrames later mid rest after → ServesFrames (first ++ later) before (calls ++ rest) after
serves_both [] later before mid after calls rest (none, same) then =
    subst (λ (xs : List Call). ServesFrames later before (xs ++ rest) after) (sym none)
    (subst (λ (port : Port). ServesFrames later port rest after) (sym same) then)
serves_both (frame ∷ first) later before mid after calls rest (at, one, others, sent, split, hears, serves) then = (
  at,
  one,
  others ++ rest,
  sent,
  ap (λ (xs : List Call). xs ++ rest) split ∙ append_assoc one others rest,
  hears,
  serves_both first later at mid after others rest serves then,
)

-- the same, where the last request was dropped or not
pub serves_on : (end : End) (first later : List (List ℕ)) (before mid after : Port) (calls rest : List Call)
    → ServesFrames first before calls mid → ServesTo end later mid rest after → ServesTo end (first ++ later) before (calls ++ rest) after
serves_on Turns first later before mid after calls rest begins then = serves_both first later before mid after calls rest begins then
serves_on Full first later before mid after calls rest begins then = record {
  served = first ++ then.served;
  last = then.last;
  mid = then.mid;
  all = ap (λ (xs : List (List ℕ)). first ++ xs) then.all ∙ sym (append_assoc first then.served (then.last ∷ []));
  serves = serves_both first then.served before mid then.mid calls rest begins then.serves;
  drops = then.drops;
}

-- a worker that made no turn
pub idle : (port : Port) (held : List Call) (counts : Counts) → WorkerRun Turns 0 port port held held counts counts
idle port held counts = record {
  frames = [];
  gained = [];
  calls = refl;
  heard = refl;
  list = sym (append-nil held);
  serves = (refl, refl);
}

-- calls of `next`, and one more
made_on : (end : End) (turns : ℕ) (first counted counts : Counts) → MadeAll Turns turns first counted → MadeAll end 1 counted counts
    → MadeAll end (turns + 1) first counts
made_on Turns turns first counted counts begins then =
    let same : suc turns ≡ turns + 1 = omega arith in then ∙ ap one_more begins ∙ ap (counted_on first.calls) same
made_on Full turns first counted counts begins (made, least, most, then) = (
  made + turns,
  omega (arith, least),
  omega (arith, most),
  then ∙ ap (λ (calls : ℕ). counted_on calls made) begins ∙ counted_twice first.calls turns made,
)

-- a worker that made turns makes one more
pub works_on : (end : End) (turns : ℕ) (before mid after : Port) (held kept more : List Call) (first counted counts : Counts)
    → WorkerRun Turns turns before mid held kept first counted
    → WorkerRun end 1 mid after kept more counted counts
    → WorkerRun end (turns + 1) before after held more first counts
works_on end turns before mid after held kept more first counted counts begins then =
    let both : length then.frames + length begins.frames ≡ length (begins.frames ++ then.frames) = omega (arith, length-append begins.frames then.frames) in record {
      frames = begins.frames ++ then.frames;
      gained = begins.gained ++ then.gained;
      calls = made_on end turns first counted counts begins.calls then.calls;
      heard = then.heard ∙ ap (λ (n : ℕ). counted_on n (length then.frames)) begins.heard
          ∙ counted_twice first.heard (length begins.frames) (length then.frames)
          ∙ ap (counted_on first.heard) both;
      list = then.list ∙ ap (λ (xs : List Call). xs ++ then.gained) begins.list ∙ append_assoc held begins.gained then.gained;
      serves = serves_on end begins.frames then.frames before mid after begins.gained then.gained begins.serves then.serves;
    }

-- a worker that found no room needn't have made all its turns
pub full_early : (made turns : ℕ) (before after : Port) (held kept : List Call) (counted counts : Counts) → made ≤ turns
    → WorkerRun Full made before after held kept counted counts → WorkerRun Full turns before after held kept counted counts
full_early made turns before after held kept counted counts within worked = record {
  frames = worked.frames;
  gained = worked.gained;
  calls = (worked.calls.0, worked.calls.1, (let most = worked.calls.2 in omega (arith, most, within)), worked.calls.3);
  heard = worked.heard;
  list = worked.list;
  serves = worked.serves;
}

-- a worker that made as many turns as it was to make has made them all
pub all_made : (made turns : ℕ) (before after : Port) (held kept : List Call) (counted counts : Counts) → made ≤ turns → turns ≤ made
    → WorkerRun Turns made before after held kept counted counts → WorkerRun Turns turns before after held kept counted counts
all_made made turns before after held kept counted counts within ended worked =
    let all : made ≡ turns = omega (arith, within, ended) in subst (λ (n : ℕ). WorkerRun Turns n before after held kept counted counts) all worked

-- one more turn is within those that are to be made
pub one_more_turn : (made turns : ℕ) → made < turns → made + 1 ≤ turns
one_more_turn made turns more = omega (arith, more)

-- ---- one frame that a port took
module _ (before : Port) (frame : List ℕ) where
  -- nothing was asked
  pub settled : (after : Port) (out : Out) (held : List Call) → IsStep before frame after out Done
      → WorkerStep Turns (Some frame) before after held held (frames_of out)
  settled after out held step = record {
    gained = [];
    list = sym (append-nil held);
    takes = record { between = after; first = out; step = Done; heard = step; settles = (refl, refl, refl) };
  }

  -- a request was asked, and answered
  pub answered : (between after : Port) (first : Out) (pending : Pending) (held kept : List Call) (sent : List (List ℕ))
      → IsStep before frame between first (Ask pending) → CarriesRequest pending between first held kept sent after
      → WorkerStep Turns (Some frame) before after held kept sent
  answered between after first pending held kept sent step carries = record {
    gained = carries.0;
    list = carries.1;
    takes = record { between = between; first = first; step = Ask pending; heard = step; settles = carries.2 };
  }

  -- a request was asked, and dropped
  pub dropped : (after : Port) (out : Out) (pending : Pending) (held kept : List Call) → IsStep before frame after out (Ask pending) → kept ≡ held
      → WorkerStep Full (Some frame) before after held kept []
  dropped after out pending held kept step list = record {
    gained = [];
    list = list ∙ sym (append-nil held);
    takes = (refl, refl, record { out = out; pending = pending; asks = step });
  }

-- what was heard was served, or dropped
serves_heard : (end : End) (heard : Option (List ℕ)) (before after : Port) (calls : List Call) (sent : List (List ℕ))
    → TakesHeard end heard before calls sent after → ServesTo end (frames_in heard) before calls after
serves_heard Turns None before after calls sent (none, nothing, same) = (none, same)
serves_heard Turns (Some frame) before after calls sent hears = (after, calls, [], sent, sym (append-nil calls), hears, (refl, refl))
serves_heard Full None before after calls sent never = absurd never
serves_heard Full (Some frame) before after calls sent (none, nothing, drops) =
    record { served = []; last = frame; mid = before; all = refl; serves = (none, refl); drops = drops }

-- ---- one turn

-- a frame that `next` heard was counted, with its call
pub heard_frame : (heard : Heard) (frame : List ℕ) (counted counts : Counts) → counts ≡ after_next (Ok heard) counted → heard ≡ Frame frame
    → CallsNext (frame ∷ []) counted counts
heard_frame heard frame counted counts counts_so is =
    let all : counts ≡ after_next (Ok (Frame frame)) counted = counts_so ∙ ap (λ (h : Heard). after_next (Ok h) counted) is in
    record { calls = ap (λ (c : Counts). c.calls) all; heard = ap (λ (c : Counts). c.heard) all }

module _ {L : Type 0} (of : Ghosts L) where
  -- `next` answered with a frame, or without
  pub gives_frame : (heard : Heard) (frame : List ℕ) (link left : L) → Gives of link (Ok heard) left → heard ≡ Frame frame → GivesFrame of link (Some frame) left
  gives_frame heard frame link left gives is = record { answer = Ok heard; gives = gives; is = sym (ap (λ (h : Heard). frame_heard (Ok h)) is) }

  pub gives_none : (answer : Result Heard LinkFault) (link left : L) → Gives of link answer left → None ≡ frame_heard answer → GivesFrame of link None left
  gives_none answer link left gives is = record { answer = answer; gives = gives; is = is }

  -- nothing was heard
  pub heard_none : (port : Port) (held : List Call) (link left : L) → GivesFrame of link None left → CallsNext [] (of.counts_of link) (of.counts_of left)
      → MakesTurn of Turns None port port held held link left
  heard_none port held link left gives next = record {
    mid = left;
    gives = gives;
    takes = record {
      sent = [];
      step = record { gained = []; list = sym (append-nil held); takes = (refl, refl, refl) };
      took = refl;
    };
    next = next;
  }

  -- a frame was heard and taken, and what came of it left the link's counts of calls alone
  pub taken : (end : End) (frame : List ℕ) (before after : Port) (held kept : List Call) (link mid left : L)
      → GivesFrame of link (Some frame) mid → CallsNext (frame ∷ []) (of.counts_of link) (of.counts_of mid)
      → (of.counts_of left).calls ≡ (of.counts_of mid).calls → (of.counts_of left).heard ≡ (of.counts_of mid).heard
      → StepOver of end (Some frame) before after held kept mid left → MakesTurn of end (Some frame) before after held kept link left
  taken end frame before after held kept link mid left gives next calls heard takes = record {
    mid = mid;
    gives = gives;
    takes = takes;
    next = record { calls = calls ∙ next.calls; heard = heard ∙ next.heard };
  }

  -- ---- turns over a link

  -- a turn is one more
  pub one_more_over : (turns : ℕ) (before mid after : Port) (held list kept : List Call) (link at left : L)
      → TurnsOver of turns before mid held list link at → OneTurnOver of Turns mid after list kept at left
      → TurnsOver of (turns + 1) before after held kept link left
  one_more_over turns before mid after held list kept link at left begins then =
      let same : suc turns ≡ turns + 1 = omega arith in
      subst (λ (n : ℕ). TurnsOver of n before after held kept link left) same (mid, list, at, begins, then)

  -- a worker found no room in the last
  pub ends_over : (made turns : ℕ) (before mid after : Port) (held list kept : List Call) (link at left : L) → made < turns
      → TurnsOver of made before mid held list link at → OneTurnOver of Full mid after list kept at left
      → EndsWithoutRoom of turns before after held kept link left
  ends_over made turns before mid after held list kept link at left within begins last =
      record { made = made; within = within; mid = mid; list = list; at = at; found = begins; last = last }

  -- as many as were to be made
  pub all_over : (made turns : ℕ) (before after : Port) (held kept : List Call) (link left : L) → made ≤ turns → turns ≤ made
      → TurnsOver of made before after held kept link left → TurnsOver of turns before after held kept link left
  all_over made turns before after held kept link left within ended over =
      let all : made ≡ turns = omega (arith, within, ended) in subst (λ (n : ℕ). TurnsOver of n before after held kept link left) all over

-- one call of `next` was counted, however the turn ends
one_call : (end : End) (before after : Counts) → after.calls ≡ counted_on before.calls 1 → MadeAll end 1 before after
one_call Turns before after counted = counted
one_call Full before after counted = (1, lit≤ tt, lit≤ tt, counted)

-- a turn is a worker's whole work, where it's to make one
pub works : {L : Type 0} (of : Ghosts L) (end : End) (heard : Option (List ℕ)) (before after : Port) (held kept : List Call) (link left : L)
    → MakesTurn of end heard before after held kept link left → WorkerRun end 1 before after held kept (of.counts_of link) (of.counts_of left)
works of end heard before after held kept link left made = record {
  frames = frames_in heard;
  gained = made.takes.step.gained;
  calls = one_call end (of.counts_of link) (of.counts_of left) made.next.calls;
  heard = made.next.heard;
  list = made.takes.step.list;
  serves = serves_heard end heard before after made.takes.step.gained made.takes.sent made.takes.step.takes;
}

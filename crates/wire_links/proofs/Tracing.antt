-- Frames that go over a link, one after another.
use Rattle.std.proofs.Common.{◌≡◌, ◌<◌, ◌+◌, ◌++◌, ℕ, List, [], ◌∷◌, length, take, drop, get_or, refl, sym, ◌∙◌, ap, subst}
use Rattle.std.proofs.Math.Seq.{take-length}
use Rattle.std.proofs.lemmas.List.{append_assoc, take_more, take-append-drop}
use Rattle.std.specs.Prelude.{Err}
use Rattle.wire_links.specs.declared.link.Link.{Ghosts}
use Rattle.wire_links.specs.declared.link.LinkFault.{LinkFault}
use Rattle.wire_links.specs.Trace.{Sending, Takes, TakesFrames, SendsAll, SendsUpTo}

-- the frames so far, and then the next
one_more : (frames : List (List ℕ)) (place : ℕ) (frame : List ℕ) → place < length frames → frame ≡ get_or frames place frame
    → take (place + 1) frames ≡ take place frames ++ frame ∷ []
one_more frames place frame within is = take_more frames place frame within ∙ ap (λ (f : List ℕ). take place frames ++ f ∷ []) (sym is)

module _ {L : Type 0} (of : Ghosts L) (May : Sending → Type 0) where
  -- one more frame was taken
  takes_more : (before : L) (frames : List (List ℕ)) (frame : List ℕ) (answer : Sending) (mid after : L)
      → TakesFrames of May before frames mid → May answer → Takes of mid frame answer after → TakesFrames of May before (frames ++ frame ∷ []) after
  takes_more before [] frame answer mid after none may takes =
      (answer, may, after, subst (λ (link : L). Takes of link frame answer after) (sym none) takes, refl)
  takes_more before (first ∷ frames) frame answer mid after (told, might, next, took, rest) may takes =
      (told, might, next, took, takes_more next frames frame answer mid after rest may takes)

  -- those so far were taken, and then the next
  pub takes_next : (before : L) (frames : List (List ℕ)) (place : ℕ) (frame : List ℕ) (answer : Sending) (mid after : L)
      → TakesFrames of May before (take place frames) mid → place < length frames → frame ≡ get_or frames place frame → May answer → Takes of mid frame answer after
      → TakesFrames of May before (take (place + 1) frames) after
  takes_next before frames place frame answer mid after so_far within is may takes =
      subst (λ (fs : List (List ℕ)). TakesFrames of May before fs after) (sym (one_more frames place frame within is))
      (takes_more before (take place frames) frame answer mid after so_far may takes)

  -- all were
  pub takes_whole : (before : L) (frames : List (List ℕ)) (place : ℕ) (after : L) → TakesFrames of May before (take place frames) after → place ≡ length frames
      → TakesFrames of May before frames after
  takes_whole before frames place after so_far all =
      subst (λ (fs : List (List ℕ)). TakesFrames of May before fs after) (ap (λ (n : ℕ). take n frames) all ∙ take-length frames) so_far

-- those so far were sent, and then one's sending failed
pub up_to_fault : {L : Type 0} (of : Ghosts L) (before : L) (frames : List (List ℕ)) (place : ℕ) (frame : List ℕ) (fault : LinkFault) (mid after : L)
    → SendsAll of before (take place frames) mid → place < length frames → frame ≡ get_or frames place frame → Takes of mid frame (Err fault) after
    → SendsUpTo of fault before frames after
up_to_fault of before frames place frame fault mid after so_far within is fails =
    let rest : List (List ℕ) = drop (place + 1) frames in record {
      first = take place frames;
      failed = frame;
      unsent = rest;
      mid = mid;
      all = sym (take-append-drop (place + 1) frames) ∙ ap (λ (fs : List (List ℕ)). fs ++ rest) (one_more frames place frame within is)
          ∙ append_assoc (take place frames) (frame ∷ []) rest;
      sends = so_far;
      fails = fails;
    }

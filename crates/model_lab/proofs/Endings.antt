-- A play ends in one way.
use Rattle.std.proofs.Common.{◌≡◌, ◌+◌, List, [], ◌∷◌, ◌++◌, length, Some, None, refl, sym, ◌∙◌, ap, subst}
use Rattle.cfg_records.specs.declared.board_file.BoardFile.{BoardFile}
use Rattle.model_lab.specs.Lab.{Lab}
use Rattle.model_lab.specs.declared.fault.Fault.{Fault}
use Rattle.text_lines.specs.declared.event.Event.{Event}
use Rattle.model_lab.specs.Played.{plans, Ending, Whole, Stops, fault_at, happens, after, AreTaken, told_of, PlaysFrom}

module _ (file : BoardFile) where
  -- an event that is taken has no fault
  clash : (x : Lab plans) (e d : Event) (f : Fault) → d ≡ e → fault_at file x d ≡ None → fault_at file x e ≡ Some f → ⊥
  clash x e d f same taken faulty = (let both : None ≡ Some f = sym taken ∙ ap (fault_at file x) same ∙ faulty in cc both)

  -- events that are all taken stop nowhere
  no_stop : (x : Lab plans) (before rest events : List Event) (e : Event) (f : Fault) → events ≡ before ++ e ∷ rest → AreTaken file events x
      → fault_at file (after file before x) e ≡ Some f → ⊥
  no_stop x [] rest [] e f all taken faulty = cc all
  no_stop x [] rest (d ∷ events) e f all taken faulty = clash x e d f (cc all) taken.0 faulty
  no_stop x (b ∷ before) rest [] e f all taken faulty = cc all
  no_stop x (b ∷ before) rest (d ∷ events) e f all taken faulty =
      let same : d ≡ b = cc all in
      let others : events ≡ before ++ e ∷ rest = cc all in
      no_stop (happens file b x) before rest events e f others (subst (λ k. AreTaken file events (happens file k x)) same taken.1) faulty

  -- two stops are one
  one_stop : (x : Lab plans) (before others rest left : List Event) (e d : Event) (f g : Fault) → before ++ e ∷ rest ≡ others ++ d ∷ left
      → AreTaken file before x → AreTaken file others x
      → fault_at file (after file before x) e ≡ Some f → fault_at file (after file others x) d ≡ Some g → (before ≡ others) × (f ≡ g)
  one_stop x [] [] rest left e d f g all taken also faulty bad =
      let same : e ≡ d = cc all in
      let both : Some f ≡ Some g = sym faulty ∙ ap (fault_at file x) same ∙ bad in
      (refl, cc both)
  one_stop x [] (o ∷ others) rest left e d f g all taken also faulty bad = absurd (clash x e o f (cc all) also.0 faulty)
  one_stop x (b ∷ before) [] rest left e d f g all taken also faulty bad = absurd (clash x d b g (cc all) taken.0 bad)
  one_stop x (b ∷ before) (o ∷ others) rest left e d f g all taken also faulty bad =
      let same : o ≡ b = cc all in
      let tails : before ++ e ∷ rest ≡ others ++ d ∷ left = cc all in
      let more = one_stop (happens file b x) before others rest left e d f g tails taken.1
      (subst (λ k. AreTaken file others (happens file k x)) same also.1) faulty
      (subst (λ k. fault_at file (after file others (happens file k x)) d ≡ Some g) same bad) in
      let begins : before ≡ others = more.0 in
      (cc (same, begins), more.1)

  pub one_end : (x : Lab plans) (events : List Event) (ending other : Ending) → PlaysFrom file x events ending → PlaysFrom file x events other → ending ≡ other
  one_end x events (Whole told) (Whole also) is was = ap Whole (is.1 ∙ sym was.1)
  one_end x events (Whole told) (Stops g place also) is (others, left, d, all, at, taken, bad, tells) =
      absurd (no_stop x others left events d g all is.0 bad)
  one_end x events (Stops f place told) (Whole also) (before, rest, e, all, at, taken, faulty, tells) was =
      absurd (no_stop x before rest events e f all was.0 faulty)
  one_end x events (Stops f place told) (Stops g spot also) (before, rest, e, all, at, taken, faulty, tells) (others, left, d, whole, there, too, bad, says) =
      let same = one_stop x before others rest left e d f g (sym all ∙ whole) taken too faulty bad in
      let places : place ≡ spot = at ∙ ap (λ (es : List Event). length es + 1) same.0 ∙ sym there in
      let labs : told ≡ also = tells ∙ ap (λ es. told_of file x (after file es x)) same.0 ∙ sym says in
      let faults : f ≡ g = same.1 in
      cc (places, labs, faults)

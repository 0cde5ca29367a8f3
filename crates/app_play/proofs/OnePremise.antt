-- Of one play one thing is told of the premise on packets.
use Rattle.std.proofs.Common.{◌≡◌, ◌∙◌, ℕ, ◌+◌, suc, List, [], ◌∷◌, ◌++◌, length, Option, Some, None, ap, refl, subst, sym}
use Rattle.cfg_records.specs.declared.board_file.BoardFile.{BoardFile}
use Rattle.model_lab.specs.Lab.{Lab}
use Rattle.model_lab.specs.Played.{plans, happens, after}
use Rattle.model_headline.specs.Plays.{KeepsPremise, AllKeepPremise, TellsPremise}
use Rattle.text_lines.specs.declared.event.Event.{Event}

same_head : (e d : Event) (es ds : List Event) → e ∷ es ≡ d ∷ ds → e ≡ d
same_head e d es ds same = cc same

same_tail : (e d : Event) (es ds : List Event) → e ∷ es ≡ d ∷ ds → es ≡ ds
same_tail e d es ds same = cc same

module _ (file : BoardFile) where
  -- where all events keep the premise, each does
  keeps_at : (before : List Event) (e : Event) (rest : List Event) (x : Lab plans) → AllKeepPremise file (before ++ e ∷ rest) x → KeepsPremise file (after file before x) e
  keeps_at [] e rest x all = all.0
  keeps_at (d ∷ before) e rest x all = keeps_at before e rest (happens file d x) all.1

  -- the first that doesn't stands at one place
  one_place : (before others rest more : List Event) (e d : Event) (x : Lab plans) → before ++ e ∷ rest ≡ others ++ d ∷ more
      → AllKeepPremise file before x → AllKeepPremise file others x → (KeepsPremise file (after file before x) e → ⊥)
      → (KeepsPremise file (after file others x) d → ⊥) → length before ≡ length others
  one_place [] [] rest more e d x same all also broke broke_too = refl
  one_place [] (o ∷ others) rest more e d x same all also broke broke_too =
      absurd (broke (subst (KeepsPremise file x) (sym (same_head e o rest (others ++ d ∷ more) same)) also.0))
  one_place (b ∷ before) [] rest more e d x same all also broke broke_too =
      absurd (broke_too (subst (KeepsPremise file x) (same_head b d (before ++ e ∷ rest) more same) all.0))
  one_place (b ∷ before) (o ∷ others) rest more e d x same all also broke broke_too =
      let head : b ≡ o = same_head b o (before ++ e ∷ rest) (others ++ d ∷ more) same in
      ap suc (one_place before others rest more e d (happens file b x) (same_tail b o (before ++ e ∷ rest) (others ++ d ∷ more) same) all.1
      (subst (λ (k : Event). AllKeepPremise file others (happens file k x)) (sym head) also.1) broke
      (subst (λ (k : Event). KeepsPremise file (after file others (happens file k x)) d → ⊥) (sym head) broke_too))

  none_broke : (events : List Event) (x : Lab plans) (place : ℕ) → AllKeepPremise file events x → TellsPremise file events x (Some place) → ⊥
  none_broke events x place all told =
      told.6 (keeps_at told.0 told.2 told.1 x (subst (λ (es : List Event). AllKeepPremise file es x) told.3 all))

  pub one_premise : (events : List Event) (x : Lab plans) (told other : Option ℕ) → TellsPremise file events x told → TellsPremise file events x other → told ≡ other
  one_premise events x None None is also = refl
  one_premise events x None (Some place) is also = absurd (none_broke events x place is also)
  one_premise events x (Some place) None is also = absurd (none_broke events x place also is)
  one_premise events x (Some place) (Some at) is also =
      ap (λ (n : ℕ). Some n) (is.4 ∙ ap (λ (n : ℕ). n + 1) (one_place is.0 also.0 is.1 also.1 is.2 also.2 x (sym is.3 ∙ also.3) is.5 also.5 is.6 also.6) ∙ sym also.4)

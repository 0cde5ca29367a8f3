-- Where one step of a lab is followed by another, the model's world goes on to the end of both.
use Rattle.std.proofs.Common.{◌≡◌, List, [], ◌∷◌, ◌++◌, refl, sym, ◌∙◌, ap, subst, append_assoc}
use Rattle.cfg_records.specs.declared.board_file.BoardFile.{BoardFile}
use Rattle.model_undo.specs.Giving.{GivenAnswer, given_at, given_in}
use Rattle.model_undo.specs.World as world
use Rattle.model_undo.specs.World.{States, World, Happening, AllMay, run}
use Rattle.model_undo.proofs.Headline.{run_on}
use Rattle.undo_plans.specs.declared.names.Names.{Names}
use Rattle.model_lab.specs.Lab.{Lab}
use Rattle.model_headline.specs.Each.{Each}
use Rattle.model_headline.specs.Tied.{own_plans, own_family, own_lines, own_wires, IsTied, IsGivenAnswer, world_of, WorldFollows}

module _ (setup : BoardFile) (names : Names) where
  both_may : (first later : List (Happening (own_family setup names) (own_lines setup names))) (w : World (own_family setup names) (own_lines setup names)) → AllMay (own_family setup names) (own_lines setup names) (own_wires setup names) first w
      → AllMay (own_family setup names) (own_lines setup names) (own_wires setup names) later (run (own_family setup names) (own_lines setup names) (own_wires setup names) first w) → AllMay (own_family setup names) (own_lines setup names) (own_wires setup names) (first ++ later) w
  both_may [] later w one two = two
  both_may (e ∷ es) later w one two = (one.0, both_may es later (world.happens (own_family setup names) (own_lines setup names) (own_wires setup names) w e) one.1 two)

  both_give : (first later : List (Happening (own_family setup names) (own_lines setup names))) (w : World (own_family setup names) (own_lines setup names))
      → given_in (own_family setup names) (own_lines setup names) (own_wires setup names) first w ++ given_in (own_family setup names) (own_lines setup names) (own_wires setup names) later (run (own_family setup names) (own_lines setup names) (own_wires setup names) first w)
      ≡ given_in (own_family setup names) (own_lines setup names) (own_wires setup names) (first ++ later) w
  both_give [] later w = refl
  both_give (e ∷ es) later w =
      append_assoc (given_at (own_family setup names) (own_lines setup names) (own_wires setup names) w e) _ _
      ∙ ap (λ (gs : List (GivenAnswer (own_family setup names))). given_at (own_family setup names) (own_lines setup names) (own_wires setup names) w e ++ gs) (both_give es later (world.happens (own_family setup names) (own_lines setup names) (own_wires setup names) w e))

  -- the model's world goes from one lab's to the other's
  pub record Went (x : Lab (own_plans setup names)) (on : States (own_lines setup names)) (y : Lab (own_plans setup names)) : Type 0 where
    pub happenings : List (Happening (own_family setup names) (own_lines setup names))
    pub left : States (own_lines setup names)
    pub may : AllMay (own_family setup names) (own_lines setup names) (own_wires setup names) happenings (world_of setup names x on)
    pub reaches : run (own_family setup names) (own_lines setup names) (own_wires setup names) happenings (world_of setup names x on) ≡ world_of setup names y left
    pub tied : IsTied setup names y left

  -- the answers that are given on the way
  abbrev pub given_on : (x : Lab (own_plans setup names)) (on : States (own_lines setup names)) (y : Lab (own_plans setup names)) → Went x on y → List (GivenAnswer (own_family setup names))
  given_on x on y g = given_in (own_family setup names) (own_lines setup names) (own_wires setup names) g.happenings (world_of setup names x on)

  abbrev pub went_there : (x y : Lab (own_plans setup names)) (on : States (own_lines setup names)) → WorldFollows setup names x on y → Went x on y
  went_there x y on g = record { happenings = g.happenings; left = g.left; may = g.may; reaches = g.reaches; tied = g.tied }

  abbrev pub stays_there : (x : Lab (own_plans setup names)) (on : States (own_lines setup names)) → IsTied setup names x on → Went x on x
  stays_there x on tied = record { happenings = []; left = on; may = tt; reaches = refl; tied = tied }

  module _ (x y z : Lab (own_plans setup names)) (on : States (own_lines setup names)) (first : Went x on y) (later : Went y first.left z) where
    pub goes_may : AllMay (own_family setup names) (own_lines setup names) (own_wires setup names) (first.happenings ++ later.happenings) (world_of setup names x on)
    goes_may = both_may first.happenings later.happenings (world_of setup names x on) first.may
        (subst (AllMay (own_family setup names) (own_lines setup names) (own_wires setup names) later.happenings) (sym first.reaches) later.may)

    pub goes_reach : run (own_family setup names) (own_lines setup names) (own_wires setup names) (first.happenings ++ later.happenings) (world_of setup names x on) ≡ world_of setup names z later.left
    goes_reach = run_on (own_family setup names) (own_lines setup names) (own_wires setup names) first.happenings later.happenings (world_of setup names x on)
        ∙ ap (run (own_family setup names) (own_lines setup names) (own_wires setup names) later.happenings) first.reaches
        ∙ later.reaches

    abbrev pub goes_on : Went x on z
    goes_on = record { happenings = first.happenings ++ later.happenings; left = later.left; may = goes_may; reaches = goes_reach; tied = later.tied }

    -- the answers on both ways are those on the whole
    pub gives_both : given_on x on y first ++ given_on y first.left z later ≡ given_on x on z goes_on
    gives_both =
        ap (λ (w : World (own_family setup names) (own_lines setup names)). given_on x on y first ++ given_in (own_family setup names) (own_lines setup names) (own_wires setup names) later.happenings w) (sym first.reaches)
        ∙ both_give first.happenings later.happenings (world_of setup names x on)

  -- no answer is given on the way
  pub record Quietly (x : Lab (own_plans setup names)) (on : States (own_lines setup names)) (y : Lab (own_plans setup names)) : Type 0 where
    pub went : Went x on y
    pub none : given_on x on y went ≡ []

  pub quiet_there : (x : Lab (own_plans setup names)) (on : States (own_lines setup names)) → IsTied setup names x on → Quietly x on x
  quiet_there x on tied = record { went = stays_there x on tied; none = refl }

  pub quietly_on : (x y z : Lab (own_plans setup names)) (on : States (own_lines setup names)) (first : Quietly x on y) → Quietly y first.went.left z → Quietly x on z
  quietly_on x y z on first later = record {
    went = goes_on x y z on first.went later.went;
    none = sym (gives_both x y z on first.went later.went)
        ∙ ap (λ (gs : List (GivenAnswer (own_family setup names))). gs ++ given_on y first.went.left z later.went) first.none
        ∙ later.none;
  }

  pub goes_quietly : (x y : Lab (own_plans setup names)) (on : States (own_lines setup names)) → Quietly x on y → WorldFollows setup names x on y
  goes_quietly x y on q = record {
    happenings = q.went.happenings;
    left = q.went.left;
    may = q.went.may;
    reaches = q.went.reaches;
    gives = subst (Each (IsGivenAnswer setup names x y)) (sym q.none) tt;
    tied = q.went.tied;
  }

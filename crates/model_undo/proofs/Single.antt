-- Where each series is one request, what is known of that request is known of the series.
use Rattle.std.proofs.Common.{◌≡◌, ℕ, List, [], ◌∷◌, ◌++◌, Some, refl, sym, ◌∙◌, ap, subst, inl, inr}
use Rattle.std.proofs.lemmas.Option.{none-some, same_Some}
use Rattle.two_wire.specs.Codes.{success}
use Rattle.model_bus.specs.Answered.{Answered}
use Rattle.model_undo.specs.Words.{Words, IsNext, IsOneOf, AreSingle, AllAnswered, get_asked, set_asked}
use Rattle.model_undo.specs.Family.{Family, AllValid, GaveAnswer}
use Rattle.model_undo.specs.IsFamily.{ShownRecord, AnswersSet, IsFamily, IsSingleFamily}

module _ (M : Words) (single : AreSingle M) where
  -- each request of a series is its first
  pub one_next : (series : M.Series) (bodies : List (List ℕ)) (asked : M.Asked) → IsNext M series bodies asked → asked ≡ M.first series
  one_next series [] asked is = is
  one_next series (body ∷ bodies) asked is = absurd (none-some asked (sym (single.none_next series (body ∷ bodies)) ∙ is))

  pub one_of : (series : M.Series) (asked : M.Asked) → IsOneOf M series asked → asked ≡ M.first series
  one_of series asked (inl is) = is
  one_of series asked (inr is) = absurd (none-some asked (sym (single.none_next series is.0) ∙ is.1))

  -- the only answer to a series, and its data
  pub record OneAnswer (Given : M.Asked → Answered → Type 0) (series : M.Series) (bodies : List (List ℕ)) : Type 0 where
    pub body : List ℕ
    pub given : Given (M.first series) (record { code = success; body = body })
    pub joined_is : M.joined series bodies ≡ body

  pub one_answer : (Given : M.Asked → Answered → Type 0) (series : M.Series) (bodies : List (List ℕ)) → AllAnswered M Given series bodies → OneAnswer Given series bodies
  one_answer Given series [] h = absurd (h.some refl)
  one_answer Given series (body ∷ []) h =
      let one = h.in_order in
      record { body = body; given = subst (λ (asked : M.Asked). Given asked (record { code = success; body = body })) one.1 one.2; joined_is = single.shows_it series body }
  one_answer Given series (body ∷ other ∷ bodies) h =
      let two = h.in_order.3 in
      absurd (none-some two.0 (sym (single.none_next series (body ∷ [])) ∙ two.1))

-- a family whose series are one request each is a family
module _ (F : Family) (laws : IsSingleFamily F) where
  set_row : (b after : F.Board) (op : F.words.Op) (bodies : List (List ℕ)) (a : Answered) → AnswersSet F op bodies b a after → F.Row b (set_asked F.words op) a after
  set_row b after op bodies a set = subst (λ (asked : F.words.Asked). F.Row b asked a after) (one_next F.words laws.single (F.words.setting op) bodies set.asked set.is_next) set.row

  one_shown : (key : F.words.Key) (body : List ℕ) (r : F.Records) → GaveAnswer F r (get_asked F.words key) (record { code = success; body = body }) → ShownRecord F key body r
  one_shown key body r gave =
      let shown = laws.gets_show gave.0 gave.1 (get_asked F.words key) key (record { code = success; body = body }) (laws.gets_are key) gave.3 refl in
      subst (ShownRecord F key body) gave.2 shown

  -- two Gets that are carried out where the records are the same show one configuration
  one_configuration : (b after c later : F.Board) (asked other : F.words.Asked) (key : F.words.Key) (a d : Answered) → F.IsGet asked key → F.IsGet other key → F.records c ≡ F.records b → AllValid F (F.records b)
      → F.Row b asked a after → F.Row c other d later → a.code ≡ success → d.code ≡ success → F.conf key d.body ≡ F.conf key a.body
  one_configuration b after c later asked other key a d is is_too same valid row row_too carried carried_too =
      let shown = laws.gets_show b after asked key a is row carried in
      let again = laws.gets_show c later other key d is_too row_too carried_too in
      let found : F.get (F.records b) key ≡ Some again.value = ap (λ (r : F.Records). F.get r key) (sym same) ∙ again.found in
      let one_value : again.value ≡ shown.value = same_Some _ _ (sym found ∙ shown.found) in
      laws.kinds.steady key shown.value d.body a.body (valid key shown.value shown.found) (subst (λ (v : F.Value). F.Shows key v d.body) one_value again.shows) shown.shows

  pub single_family : IsFamily F
  single_family = record {
    kinds = laws.kinds;
    gets_steady = one_configuration;
    gets_agree = laws.gets_agree;
    parts_keep = λ b after key asked a is row.
        laws.gets_keep b after asked key a (subst (λ (x : F.words.Asked). F.IsGet x key) (sym (one_of F.words laws.single (F.words.getting key) asked is)) (laws.gets_are key)) row;
    parts_show = λ r key bodies valid all.
        let one = one_answer F.words laws.single (GaveAnswer F r) (F.words.getting key) bodies all in
        subst (λ (body : List ℕ). ShownRecord F key body r) (sym one.joined_is) (one_shown key one.body r one.given);
    sets_go_on = λ b after op bodies a asked set e is. absurd (none-some asked (sym (laws.single.none_next (F.words.setting op) (bodies ++ a.body ∷ [])) ∙ is));
    sets_do = λ b after op bodies a set e is. laws.sets_do b after op a (set_row b after op bodies a set) e;
    refusals_keep = λ b after op bodies a set ne. laws.refusals_keep b after op a (set_row b after op bodies a set) ne;
    refusals_say = λ b after op bodies a set ne. laws.refusals_say b after op a (set_row b after op bodies a set) ne;
    stays_ready = λ b after asked a made free row series. laws.ready after series [];
    never_busy = laws.never_busy;
  }

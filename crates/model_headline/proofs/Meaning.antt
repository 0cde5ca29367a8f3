-- What the model says of records is what the statement says.
use Rattle.std.proofs.Common.{◌≡◌, ℕ, zero, suc, true, false, List, length, Option, Some, None, refl, sym, ◌∙◌, ap, subst, ◌⊎◌, inl, inr}
use Rattle.std.specs.Option.{option_map}
use Rattle.std.proofs.lemmas.List.{length-map}
use Rattle.record_base.specs.declared.attribute.Attribute.{Attribute}
use Rattle.record_base.specs.declared.key.Key.TheVariants as of_key
use Rattle.record_base.specs.declared.live.Live.{Live}
use Rattle.record_base.specs.declared.op.Op.{Op}
use Rattle.record_base.specs.Attribute.{range_of}
use Rattle.cfg_records.specs.declared.board_file.BoardFile.{BoardFile}
use Rattle.cfg_records.specs.Records.{Records}
use Rattle.record_kinds.specs.declared.limits.Limits.{Limits}
use Rattle.record_kinds.specs.declared.limits.Limits.TheVariants as limits
use Rattle.record_kinds.specs.Boards.{attribute_at}
use Rattle.record_kinds.specs.Limits.{key_of, limits_at}
use Rattle.bmc_board.specs.AttributeParts.{later_answer}
use Rattle.bmc_board.specs.Request.{LaterPart}
use Rattle.bmc_board.specs.Replies.{unknown_code}
use Rattle.bmc_board.specs.State.{State}
use Rattle.bmc_board.specs.Answer.{answer_of, reply, serve}
use Rattle.bmc_board.proofs.OneAnswer.{has_answer}
use Rattle.undo_plans.specs.declared.names.Names.{Names}
use Rattle.model_undo.specs.Family.{Family}
use Rattle.model_undo.specs.Family as undo_family
use Rattle.model_undo.specs.Plan as plans
use Rattle.model_undo.specs.Machine as machine
use Rattle.model_undo.specs.Headline as undo_headline
use Rattle.model_lab.specs.Family.{SetsWithin, conf_within}
use Rattle.model_headline.specs.Tied.{own_family}
use Rattle.model_headline.specs.Manager.{Gets, Sets, Undoes, Phase, Fresh, Open, Done, Halted, Undone, UndoRefused, sends}
use Rattle.model_headline.specs.Claim.{ours, SetsTo, IsAfter, PhaseMeans, ShowsSame, ShowsSameParts}
use Rattle.model_headline.specs.Seen.{words_of, seen_words, stage_of}

module _ (setup : BoardFile) (names : Names) where
  abbrev family : Family
  family = own_family setup names

  sets_so : (op : Op) (old new : Records) → undo_family.SetsTo family op old new → SetsTo setup op old new
  sets_so op old new s = at (limits_at setup (key_of op)) refl s.sets
    where
      at : (o : Option Limits) → limits_at setup (key_of op) ≡ o → SetsWithin o op s.before s.after → SetsTo setup op old new
      at (Some limits) e sets = record { limits = limits; before = s.before; after = s.after; within = e; found = s.found; accepted = sets; changed = s.changed }
      at None e none = absurd none

  module _ (plan : List Op) (start : Records) where
    pub after_so : (k : ℕ) (r : Records) → plans.IsAfter family plan start k r → IsAfter setup plan start k r
    after_so zero r is = is
    after_so (suc k) r is = (is.0, is.1, after_so k is.0 is.2, is.3, sets_so is.1 is.0 r is.4)

    both : (k m : ℕ) (r : Records) → plans.IsAfter family plan start k r ⊎ plans.IsAfter family plan start m r → IsAfter setup plan start k r ⊎ IsAfter setup plan start m r
    both k m r (inl is) = inl (after_so k r is)
    both k m r (inr is) = inr (after_so m r is)

    swapped : (k m : ℕ) (r : Records) → plans.IsAfter family plan start k r ⊎ plans.IsAfter family plan start m r → IsAfter setup plan start m r ⊎ IsAfter setup plan start k r
    swapped k m r (inl is) = inr (after_so k r is)
    swapped k m r (inr is) = inl (after_so m r is)

    pub stands_so : (phase : Phase) (r : Records) → plans.PhaseMeans family plan start (machine.phase_at (seen_words names) (stage_of names phase)) r → PhaseMeans setup plan start phase r
    stands_so Fresh r is = is
    stands_so (Open true (Gets k op) bodies) r is = after_so k r is
    stands_so (Open false (Gets k op) bodies) r is = both k (suc k) r is
    stands_so (Open true (Sets k op back) bodies) r is = both k (suc k) r is
    stands_so (Open false (Sets k op back) bodies) r is = both k (suc k) r is
    stands_so (Open true (Undoes back rest) bodies) r is =
        swapped (suc (length rest)) (length rest) r (subst (λ n. plans.IsAfter family plan start (suc n) r ⊎ plans.IsAfter family plan start n r) (length-map rest sends) is)
    stands_so (Open false (Undoes back rest) bodies) r is =
        both (length rest) (suc (length rest)) r (subst (λ n. plans.IsAfter family plan start n r ⊎ plans.IsAfter family plan start (suc n) r) (length-map rest sends) is)
    stands_so Done r is = after_so (length plan) r is
    stands_so (Halted k why) r is = after_so k r is
    stands_so Undone r is = is
    stands_so (UndoRefused k code) r is = is

  pub shows_so : (b c : State) → undo_headline.ShowsSame family b c → ShowsSame setup (ours setup) b c
  shows_so b c same key one other gets again_gets =
      let shown = answer_of setup b one in
      let again = answer_of setup c other in
      let told = same key one other gets again_gets (words_of shown.0) (words_of again.0) shown.1 again.1 (has_answer setup b one) (has_answer setup c other) in
      (told.0, λ ok limits e. subst (λ (o : Option Limits). conf_within o again.0.body ≡ conf_within o shown.0.body) e (told.1 ok))

  -- what shows an attribute is its record's value alone
  later_alike : (handle transfer unknown : ℕ) (a : Option Attribute) (value : Option (List ℕ)) (one other : Live)
      → let at = option_map (λ a. limits.BiosAttribute (record { handle = handle; read_only = a.read_only; range = range_of a.kind })) a in
      later_answer at value other unknown transfer ≡ later_answer at value one unknown transfer
  later_alike handle transfer unknown (Some a) (Some value) one other = refl
  later_alike handle transfer unknown (Some a) None one other = refl
  later_alike handle transfer unknown None (Some value) one other = refl
  later_alike handle transfer unknown None None one other = refl

  later_same : (b c : State) → c.records ≡ b.records → (handle transfer : ℕ) → (serve setup c (LaterPart handle transfer)).0 ≡ (serve setup b (LaterPart handle transfer)).0
  later_same b c same handle transfer =
      let key = of_key.BiosAttribute handle in
      ap (λ (r : Records). later_answer (limits_at setup key) (r key) c.activity.live (unknown_code setup key) transfer) same
      ∙ later_alike handle transfer (unknown_code setup key) (attribute_at setup.attributes.items handle) (b.records key) b.activity.live c.activity.live

  pub shows_parts : (b c : State) → c.records ≡ b.records → ShowsSameParts setup (ours setup) b c
  shows_parts b c same handle transfer one other asks_one asks_other =
      (λ i. (reply setup c (asks_other i)).0) ∙ later_same b c same handle transfer ∙ sym (λ i. (reply setup b (asks_one i)).0)

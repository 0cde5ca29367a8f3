-- The requests of a manager's series are the same in the words of the undo model and in those of the statement.
use Rattle.std.proofs.Common.{◌≡◌, ◌≢◌, ℕ, List, [], ◌∷◌, ◌++◌, Option, Some, None, refl, sym, ◌∙◌, ap, subst, inl, inr, append-nil}
use Rattle.std.specs.Option.{option_map, unwrap_or}
use Rattle.std.proofs.lemmas.List.{append_assoc}
use Rattle.std.proofs.lemmas.Option.{none-some, same_Some}
use Rattle.two_wire.specs.Codes.{success}
use Rattle.record_base.specs.declared.message.Asked.{Asked}
use Rattle.record_base.specs.declared.message.Answered.{Answered}
use Rattle.record_kinds.specs.Limits.{key_of}
use Rattle.undo_plans.specs.declared.names.Names.{Names}
use Rattle.model_bus.specs.Answered.{Answered as UndoAnswered}
use Rattle.model_undo.specs.Words.{IsOneOf, IsMade, AreAnswered, IsReached, AllAnswered}
use Rattle.model_headline.specs.Manager.{Task, Gets, Sets, Undoes, Series, Reads, sends, first_of, next_after, request_after, by_manager, asked_for}
use Rattle.model_headline.specs.Claim.{AreGivenBehind, AreGiven, IsRefused}
use Rattle.model_headline.specs.Seen.{seen_words}

-- an answer of the undo model, in the words of the board
abbrev pub board_of : UndoAnswered → Answered
board_of a = record { code = a.code; body = a.body }

-- none is next, where none is sent
no_next : {X Y : Type 0} (f : X → Y) (o : Option X) → option_map f o ≡ None → o ≡ None
no_next f None e = refl
no_next f (Some x) e = absurd (none-some (f x) (sym e))

-- the request after a reply is the next one, where there is one
pub after_is : (series : Series) (bodies : List (List ℕ)) (body : List ℕ) (asked : Asked) → next_after series (bodies ++ body ∷ []) ≡ Some asked → request_after series (bodies ++ body ∷ []) ≡ asked
after_is series [] body asked e = ap (λ (o : Option Asked). unwrap_or o (first_of series)) e
after_is series (one ∷ bodies) body asked e = ap (λ (o : Option Asked). unwrap_or o (first_of series)) e

module _ (names : Names) where
  -- ---- a manager makes it

  pub is_of : (series : Series) (bodies : List (List ℕ)) → IsOneOf (seen_words names) series (by_manager names (request_after series bodies))
  is_of series [] = inl refl
  is_of series (body ∷ bodies) = at (next_after series (body ∷ bodies)) refl
    where
      at : (o : Option Asked) → next_after series (body ∷ bodies) ≡ o → IsOneOf (seen_words names) series (by_manager names (unwrap_or o (first_of series)))
      at None e = inl refl
      at (Some asked) e = inr (body ∷ bodies, ap (option_map (by_manager names)) e)

  pub task_made : (task : Task) (bodies : List (List ℕ)) → IsMade (seen_words names) (asked_for names task bodies)
  task_made (Gets k op) bodies = (Reads (key_of op), inl (key_of op, refl), is_of (Reads (key_of op)) bodies)
  task_made (Sets k op back) bodies = (sends op, inr (op, refl), is_of (sends op) bodies)
  task_made (Undoes back rest) bodies = (sends back, inr (back, refl), is_of (sends back) bodies)

  -- ---- all of them were answered

  -- an answer to a request of the manager, in the words of the model, was given in those of the statement, and back
  module _ (Given : Asked → UndoAnswered → Type 0) (Said : Asked → Answered → Type 0) (series : Series) where
    abbrev Answered_in : (before bodies : List (List ℕ)) → Type 0
    Answered_in = AreAnswered (seen_words names) Given series

    abbrev given_so : (body : List ℕ) → UndoAnswered
    given_so body = record { code = success; body = body }

    moved : (first : List ℕ) (before : List (List ℕ)) (body : List ℕ) (bodies : List (List ℕ)) → (first ∷ before) ++ body ∷ bodies ≡ (first ∷ (before ++ body ∷ [])) ++ bodies
    moved first before body bodies = ap (λ (rest : List (List ℕ)). first ∷ rest) (sym (append_assoc before (body ∷ []) bodies))

    module _ (so : (asked : Asked) (a : UndoAnswered) → Given (by_manager names asked) a → Said asked (board_of a)) where
      rest_given : (first : List ℕ) (before bodies : List (List ℕ)) (left : Option Asked) → Answered_in (first ∷ before) bodies → next_after series ((first ∷ before) ++ bodies) ≡ left
          → AreGivenBehind Said series (first ∷ before) (next_after series (first ∷ before)) bodies left
      rest_given first before [] left answered is = ap (λ (bodies : List (List ℕ)). next_after series (first ∷ bodies)) (sym (append-nil before)) ∙ is
      rest_given first before (body ∷ bodies) left answered is =
          at (next_after series (first ∷ before)) answered.1
          (rest_given first (before ++ body ∷ []) bodies left answered.3 (ap (next_after series) (sym (moved first before body bodies)) ∙ is))
        where
          at : (o : Option Asked) → option_map (by_manager names) o ≡ Some answered.0
              → AreGivenBehind Said series (first ∷ (before ++ body ∷ [])) (next_after series (first ∷ (before ++ body ∷ []))) bodies left → AreGivenBehind Said series (first ∷ before) o (body ∷ bodies) left
          at None e more = absurd (none-some answered.0 e)
          at (Some asked) e more = (so asked (given_so body) (subst (λ (q : Asked). Given q (given_so body)) (sym (same_Some (by_manager names asked) answered.0 e)) answered.2), more)

      all_from : (body : List ℕ) (bodies : List (List ℕ)) (left : Option Asked) → Answered_in [] (body ∷ bodies) → next_after series (body ∷ bodies) ≡ left → AreGiven Said series (body ∷ bodies) left
      all_from body bodies left one is = (so (first_of series) (given_so body) (subst (λ (q : Asked). Given q (given_so body)) one.1 one.2), rest_given body [] bodies left one.3 is)

      pub all_given : (bodies : List (List ℕ)) → AllAnswered (seen_words names) Given series bodies → AreGiven Said series bodies None
      all_given [] all = absurd (all.some refl)
      all_given (body ∷ bodies) all = all_from body bodies None all.in_order (no_next (by_manager names) (next_after series (body ∷ bodies)) all.no_more)

      -- a request that is next, once those before it were answered, and its answer
      reached_from : (bodies : List (List ℕ)) (asked : Asked) → IsReached (seen_words names) Given series bodies asked → (plain : Asked) × (by_manager names plain ≡ asked) × AreGiven Said series bodies (Some plain)
      reached_from [] asked is = (first_of series, sym is.next, refl)
      reached_from (body ∷ bodies) asked is = at (next_after series (body ∷ bodies)) refl is.next
        where
          at : (o : Option Asked) → next_after series (body ∷ bodies) ≡ o → option_map (by_manager names) o ≡ Some asked → (plain : Asked) × (by_manager names plain ≡ asked) × AreGiven Said series (body ∷ bodies) (Some plain)
          at None e next = absurd (none-some asked next)
          at (Some plain) e next = (plain, same_Some (by_manager names plain) asked next, all_from body bodies (Some plain) is.in_order e)

      pub refused_so : (code : ℕ) (bodies : List (List ℕ)) (asked : Asked) (body : List ℕ) → IsReached (seen_words names) Given series bodies asked → Given asked (record { code = code; body = body }) → (code ≢ success)
          → IsRefused Said series code
      refused_so code bodies asked body reached given fault =
          let r = reached_from bodies asked reached in
          let a : UndoAnswered = record { code = code; body = body } in
          (bodies, r.0, body, r.2, so r.0 a (subst (λ (q : Asked). Given q a) (sym r.1) given), fault)

    module _ (back : (asked : Asked) (a : UndoAnswered) → Said asked (board_of a) → Given (by_manager names asked) a) where
      -- these, and then what is left
      record Rest (before bodies : List (List ℕ)) (left : Option Asked) : Type 0 where
        pub answered : Answered_in before bodies
        pub next : next_after series (before ++ bodies) ≡ left

      rest_back : (first : List ℕ) (before bodies : List (List ℕ)) (left : Option Asked) → AreGivenBehind Said series (first ∷ before) (next_after series (first ∷ before)) bodies left → Rest (first ∷ before) bodies left
      rest_back first before [] left given = record { answered = tt; next = ap (λ (bodies : List (List ℕ)). next_after series (first ∷ bodies)) (append-nil before) ∙ given }
      rest_back first before (body ∷ bodies) left given = at (next_after series (first ∷ before)) refl given (rest_back first (before ++ body ∷ []) bodies left)
        where
          at : (o : Option Asked) → next_after series (first ∷ before) ≡ o → AreGivenBehind Said series (first ∷ before) o (body ∷ bodies) left
              → (AreGivenBehind Said series (first ∷ (before ++ body ∷ [])) (next_after series (first ∷ (before ++ body ∷ []))) bodies left → Rest (first ∷ (before ++ body ∷ [])) bodies left)
              → Rest (first ∷ before) (body ∷ bodies) left
          at None e is more = absurd is
          at (Some asked) e is more =
              let rest = more is.1 in
              record {
                answered = (by_manager names asked, ap (option_map (by_manager names)) e, back asked (given_so body) is.0, rest.answered);
                next = ap (next_after series) (moved first before body bodies) ∙ rest.next;
              }

      from_back : (body : List ℕ) (bodies : List (List ℕ)) (left : Option Asked) → AreGiven Said series (body ∷ bodies) left → Answered_in [] (body ∷ bodies)
      from_back body bodies left given = (by_manager names (first_of series), refl, back (first_of series) (given_so body) given.0, (rest_back body [] bodies left given.1).answered)

      pub all_back : (bodies : List (List ℕ)) → AreGiven Said series bodies None → AllAnswered (seen_words names) Given series bodies
      all_back [] given = absurd (none-some (first_of series) (sym given))
      all_back (body ∷ bodies) given = record {
        in_order = from_back body bodies None given;
        some = λ e. absurd cc;
        no_more = ap (option_map (by_manager names)) (rest_back body [] bodies None given.1).next;
      }

      pub reached_back : (bodies : List (List ℕ)) (plain : Asked) → AreGiven Said series bodies (Some plain) → IsReached (seen_words names) Given series bodies (by_manager names plain)
      reached_back [] plain given = record { in_order = tt; next = ap (by_manager names) (sym (same_Some (first_of series) plain given)) }
      reached_back (body ∷ bodies) plain given = record {
        in_order = from_back body bodies (Some plain) given;
        next = ap (option_map (by_manager names)) (rest_back body [] bodies (Some plain) given.1).next;
      }

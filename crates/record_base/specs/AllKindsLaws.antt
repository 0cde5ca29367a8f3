-- The laws of a kind hold for it among all kinds.
use Rattle.std.proofs.Common.{◌≡◌, ◌≤◌, ◌↔◌, ℕ, List, length, Option, Some, None, Err, Bool, true, IsTrue, refl, sym, ◌∙◌, ap, subst}
use Rattle.std.specs.Option.{IsSome, is_some, option_map}
use Rattle.two_wire.specs.Codes.{invalid_data_field}
use Rattle.record_base.specs.declared.key.Key.{Key}
use Rattle.record_base.specs.declared.op.Op.{Op}
use Rattle.record_base.specs.declared.live.Live.{Live}
use Rattle.record_base.specs.declared.message.Asked.{Asked}
use Rattle.record_base.specs.Keys.{is_length}
use Rattle.record_base.specs.Meaning.{DecidesValue, IsRefusal, room_for, most_shown}
use Rattle.record_base.specs.RefusalLaws.{refused_field}
use Rattle.record_base.specs.Kind.{KindWords, RecordWords, KindLaws, RecordLaws}
use Rattle.record_base.specs.AllKinds.{Place, OpWords, words_as, any_words, OpLaws, is_of_own, sets_own, outcome_own, lifted}

-- ---- options under a map

some_mapped : {A B : Type 0} (f : A → B) (o : Option A) → is_some (option_map f o) ≡ is_some o
some_mapped f (Some a) = refl
some_mapped f None = refl

mapped : {A B : Type 0} (f : A → B) (o : Option A) (b : B) → option_map f o ≡ Some b → (a : A) × ((o ≡ Some a) × (f a ≡ b))
mapped f (Some a) b is = (a, (refl, cc))
mapped f None b is = cc

-- ---- operations of any kind

-- where the words for each operation have their laws, the kind to which every record belongs has its laws
pub any_laws : (op_words : Op → OpWords) (asked : Key → Asked) → ((op : Op) → OpLaws op_words op) → KindLaws (any_words op_words asked)
any_laws op_words asked laws = record {
  set_short = λ op. (laws op).set_short;
  invertible = λ op. (laws op).invertible;
  plain = λ op. (laws op).plain;
}

module _ {K O : Type 0} (W : KindWords K O) (place : Place W) (op_words : Op → OpWords) (agrees : (own : O) → op_words (place.op own) ≡ words_as W place.op own) where
  -- the record that an operation changes
  abbrev key_of : Op → Key
  key_of op = (op_words op).key

  -- an operation of the kind, among all operations, changes the same record
  key_is : (own : O) → key_of (place.op own) ≡ W.name (W.key_of own)
  key_is own = ap (λ (s : OpWords). s.key) (agrees own)

  -- the inverse of an operation of the kind is an operation of the kind
  made_own : (own : O) (reply : List ℕ) (made : Op) → (op_words (place.op own)).inverse reply ≡ Some made → (m : O) × ((W.inverse own reply ≡ Some m) × (place.op m ≡ made))
  made_own own reply made is = mapped place.op (W.inverse own reply) made (sym (ap (λ (s : OpWords). s.inverse reply) (agrees own)) ∙ is)

  invertible_own : KindLaws W → (own : O) (reply : List ℕ) → IsSome ((op_words (place.op own)).inverse reply) ↔ ((op_words (place.op own)).is_reply reply × (op_words (place.op own)).restorable reply)
  invertible_own laws own reply =
      subst (λ (s : OpWords). IsSome (s.inverse reply) ↔ (s.is_reply reply × s.restorable reply)) (sym (agrees own))
      (subst (λ (b : Bool). (b ≡ true) ↔ (W.is_reply own reply × W.restorable own reply)) (sym (some_mapped place.op (W.inverse own reply))) (laws.invertible own reply))

  plain_own : KindLaws W → (own : O) (made : Op) (reply : List ℕ) → (op_words (place.op own)).inverse reply ≡ Some made → (op_words made).is_plain
  plain_own laws own made reply is =
      let m = made_own own reply made is in
      subst (λ (o : Op). (op_words o).is_plain) m.1.1 (subst (λ (s : OpWords). s.is_plain) (sym (agrees m.0)) (laws.plain own m.0 reply m.1.0))

  -- the laws of the kind's operations
  pub own_op_laws : KindLaws W → (own : O) → OpLaws op_words (place.op own)
  own_op_laws laws own = record {
    set_short = subst (λ (s : OpWords). length s.set_reply ≤ room_for s.set_asked) (sym (agrees own)) (laws.set_short own);
    invertible = invertible_own laws own;
    plain = plain_own laws own;
  }

  -- ---- a record of the kind

  module _ (asked : Key → Asked) (asks : (own : K) → asked (W.name own) ≡ W.get_asked own) (op_there : (any : Op) → IsSome (place.own_key (key_of any)) → IsSome (place.own_op any)) (R : RecordWords K O) (laws : RecordLaws W R) where
    -- an operation of the kind that equals the given operation
    abbrev Own : Op → Type 0
    Own op = (own : O) × (op ≡ place.op own)

    to_any : (own : O) → R.is_of (W.key_of own) → is_of_own (place.own_key (key_of (place.op own))) R
    to_any own here =
        subst (λ (k : Key). is_of_own (place.own_key k) R) (sym (key_is own))
        (subst (λ (found : Option ((k : K) × (W.name (W.key_of own) ≡ W.name k))). is_of_own found R) (sym (place.finds_key (W.key_of own))) here)

    of_any : (own : O) → is_of_own (place.own_key (key_of (place.op own))) R → R.is_of (W.key_of own)
    of_any own here =
        subst (λ (found : Option ((k : K) × (W.name (W.key_of own) ≡ W.name k))). is_of_own found R) (place.finds_key (W.key_of own))
        (subst (λ (k : Key). is_of_own (place.own_key k) R) (key_is own) here)

    there : (key : Key) (found : Option ((own : K) × (key ≡ W.name own))) → is_of_own found R → IsSome found
    there key (Some own) here = refl
    there key None here = absurd here

    -- an operation on a record of the kind is an operation of the kind
    own_of : (op : Op) (found : Option (Own op)) → IsSome found → Own op
    own_of op (Some own) is = own
    own_of op None is = cc

    found_own : (op : Op) → is_of_own (place.own_key (key_of op)) R → Own op
    found_own op here = own_of op (place.own_op op) (op_there op (there (key_of op) (place.own_key (key_of op)) here))

    taken : (op : Op) (found : Option (Own op)) (old new : List ℕ) → sets_own found R old new → is_of_own (place.own_key (key_of op)) R
    taken op (Some own) old new done = subst (λ (o : Op). is_of_own (place.own_key (key_of o)) R) (sym own.1) (to_any own.0 (laws.taken own.0 old new done))
    taken op None old new done = absurd done

    decides : (op : Op) (found : Option (Own op)) (value : List ℕ) → DecidesValue (outcome_own found R value) (sets_own found R value)
    decides op (Some own) value = laws.decides own.0 value
    decides op None value = λ new done. done

    refuses : (op : Op) (found : Option (Own op)) (value : List ℕ) (code : ℕ) → outcome_own found R value ≡ Err code → IsRefusal code
    refuses op (Some own) value code is = laws.refuses own.0 value code is
    refuses op None value code is = refused_field code (Err invalid_data_field) refl is

    determined : (op : Op) (found : Option (Own op)) (old new other : List ℕ) → sets_own found R old new → sets_own found R old other → new ≡ other
    determined op (Some own) old new other done also = laws.determined own.0 old new other done also
    determined op None old new other done also = absurd done

    keeps : (op : Op) (found : Option (Own op)) (old new : List ℕ) → R.valid old → sets_own found R old new → R.valid new
    keeps op (Some own) old new is_valid done = laws.keeps own.0 old new is_valid done
    keeps op None old new is_valid done = absurd done

    fits : (op : Op) (found : Option (Own op)) (old new : List ℕ) → sets_own found R old new → IsTrue (is_length (key_of op) (length new))
    fits op (Some own) old new done =
        subst (λ (k : Key). IsTrue (is_length k (length new))) (sym (ap key_of own.1 ∙ key_is own.0)) (laws.fits own.0 old new done)
    fits op None old new done = absurd done

    replies_own : (own : O) (value : List ℕ) (live : Live) → is_of_own (place.own_key (key_of (place.op own))) R → R.valid value → (op_words (place.op own)).is_reply (R.view value live)
    replies_own own value live here is_valid = subst (λ (s : OpWords). s.is_reply (R.view value live)) (sym (agrees own)) (laws.replies own value live (of_any own here) is_valid)

    replies : (op : Op) → Own op → (value : List ℕ) (live : Live) → is_of_own (place.own_key (key_of op)) R → R.valid value → (op_words op).is_reply (R.view value live)
    replies op own value live =
        subst (λ (o : Op). is_of_own (place.own_key (key_of o)) R → R.valid value → (op_words o).is_reply (R.view value live)) (sym own.1) (replies_own own.0 value live)

    get_short : (key : Key) (found : Option ((own : K) × (key ≡ W.name own))) (value : List ℕ) (live : Live) → is_of_own found R → R.valid value → length (R.view value live) ≤ most_shown key (asked key)
    get_short key (Some own) value live here is_valid =
        subst (λ (k : Key). length (R.view value live) ≤ most_shown k (asked key)) (sym own.1)
        (subst (λ (a : Asked). length (R.view value live) ≤ most_shown (W.name own.0) a) (sym (ap asked own.1 ∙ asks own.0)) (laws.get_short own.0 value live here is_valid))
    get_short key None value live here is_valid = absurd here

    same_own : (own : O) (made : Op) (value : List ℕ) (live : Live) → is_of_own (place.own_key (key_of (place.op own))) R → R.valid value → (op_words (place.op own)).inverse (R.view value live) ≡ Some made
        → key_of made ≡ key_of (place.op own)
    same_own own made value live here is_valid is =
        let m = made_own own (R.view value live) made is in
        ap key_of (sym m.1.1) ∙ key_is m.0 ∙ ap W.name (laws.same_record own m.0 value live (of_any own here) is_valid m.1.0) ∙ sym (key_is own)

    same_record : (op : Op) → Own op → (made : Op) (value : List ℕ) (live : Live) → is_of_own (place.own_key (key_of op)) R → R.valid value → (op_words op).inverse (R.view value live) ≡ Some made → key_of made ≡ key_of op
    same_record op own made value live =
        subst (λ (o : Op). is_of_own (place.own_key (key_of o)) R → R.valid value → (op_words o).inverse (R.view value live) ≡ Some made → key_of made ≡ key_of o) (sym own.1) (same_own own.0 made value live)

    sets_any : (own : O) (old new : List ℕ) → R.sets own old new → sets_own (place.own_op (place.op own)) R old new
    sets_any own old new done = subst (λ (found : Option (Own (place.op own))). sets_own found R old new) (sym (place.finds_op own)) done

    undoes_own : (own : O) (made : Op) (old new : List ℕ) (live : Live) → R.valid old → R.sets own old new → (op_words (place.op own)).inverse (R.view old live) ≡ Some made → sets_own (place.own_op made) R new old
    undoes_own own made old new live is_valid done is =
        let m = made_own own (R.view old live) made is in
        subst (λ (o : Op). sets_own (place.own_op o) R new old) m.1.1 (sets_any m.0 new old (laws.undoes own m.0 old new live is_valid done m.1.0))

    undoes : (op : Op) (found : Option (Own op)) (made : Op) (old new : List ℕ) (live : Live) → R.valid old → sets_own found R old new → (op_words op).inverse (R.view old live) ≡ Some made → sets_own (place.own_op made) R new old
    undoes op (Some own) made old new live is_valid done =
        subst (λ (o : Op). (op_words o).inverse (R.view old live) ≡ Some made → sets_own (place.own_op made) R new old) (sym own.1) (undoes_own own.0 made old new live is_valid done)
    undoes op None made old new live is_valid done = absurd done

    -- the laws of a record of the kind
    pub lifted_laws : RecordLaws (any_words op_words asked) (lifted place R)
    lifted_laws = record {
      one_proof = laws.one_proof;
      taken = λ op. taken op (place.own_op op);
      decides = λ op. decides op (place.own_op op);
      refuses = λ op. refuses op (place.own_op op);
      determined = λ op. determined op (place.own_op op);
      keeps = λ op. keeps op (place.own_op op);
      fits = λ op. fits op (place.own_op op);
      replies = λ op value live here. replies op (found_own op here) value live here;
      get_short = λ key. get_short key (place.own_key key);
      steady = laws.steady;
      tells = laws.tells;
      same_record = λ op made value live here. same_record op (found_own op here) made value live here;
      undoes = λ op made. undoes op (place.own_op op) made;
    }

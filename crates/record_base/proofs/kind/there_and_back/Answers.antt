use Rattle.std.proofs.Common.{◌≡◌, ℕ, List, Some, subst, sym, ◌∙◌, ap}
use Rattle.std.specs.Option.{is_some}
use Rattle.record_base.specs.declared.live.Live.{Live}
use Rattle.record_base.specs.Kind.{KindWords, RecordWords, KindLaws, RecordLaws}
use Rattle.record_base.proofs.kind.there_and_back.Goals as goal

-- an operation that has an inverse can be undone
can_undo : {K O : Type 0} (W : KindWords K O) → KindLaws W → (op made : O) (reply : List ℕ) → Some made ≡ W.inverse op reply → W.restorable op reply
can_undo W laws op made reply is = ((laws.invertible op reply).0 (sym (ap is_some is))).1

-- the inverse, made from what a Get replied, brings the old value back from the bytes that the operation left
comes_back : {K O : Type 0} (W : KindWords K O) (R : RecordWords K O) → RecordLaws W R → (op made : O) (old new read reply : List ℕ)
    → ((live : Live) × (reply ≡ R.view old live)) → R.valid old → R.sets op old new → Some made ≡ W.inverse op reply → read ≡ new → R.sets made read old
comes_back W R laws op made old new read reply got is_valid done is same =
    subst (λ (v : List ℕ). R.sets made v old) (sym same) (laws.undoes op made old new got.0 is_valid done (sym (is ∙ ap (W.inverse op) got.1)))

pub unreachable-requires : goal.unreachable-requires
unreachable-requires g c =
    let kind = g.K.RecordKind.kind in
    let limits = c.args.limits.now in
    c.in-Err.ensures.decides c.args.value.now
    (comes_back kind.words (kind.record_words limits) (kind.record_laws limits) c.args.op.now c.in_ok-undo.undo c.args.value.now c.apply.new.new c.as_slice.result.now c.args.get_data.now
    c.requires.was_got c.requires.is_valid c.in-Ok.ensures.decides c.in_ok-undo.ensures c.as_slice.ensures.value)

pub returns : goal.returns
returns g c =
    let kind = g.K.RecordKind.kind in
    let limits = c.args.limits.now in
    let laws = kind.record_laws limits in
    let made = c.in_ok-undo.undo in
    let old = c.args.value.now in
    let read = c.as_slice.result.now in
    let back = comes_back kind.words (kind.record_words limits) laws c.args.op.now made old c.apply.new.new read c.args.get_data.now c.requires.was_got c.requires.is_valid c.in-Ok.ensures.decides c.in_ok-undo.ensures c.as_slice.ensures.value in (
      ((c.apply.new.new, c.in-Ok.ensures.decides), can_undo kind.words kind.kind_laws c.args.op.now made c.args.get_data.now c.in_ok-undo.ensures),
      laws.determined made read c.apply-2.new.new old c.in-Ok-apply.ensures.decides back,
    )

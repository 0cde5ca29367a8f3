use Rattle.std.proofs.Common.{◌≡◌, ◌≤◌, ◌++◌, ◌∷◌, [], map, length, take, sym, ◌∙◌, ap, arith}
use Rattle.toml.specs.declared.value.Value.{Value}
use Rattle.std.proofs.lemmas.List.{take_all, length-map, length-take-le, map-append}
use Rattle.toml.specs.View.{view}
use Rattle.text_fields.specs.Trees.{natural}
use Rattle.text_fields.specs.Ranges.{may_do, or_zero}
use Rattle.text_board.specs.Holds.{parts_of, on_channel}
use Rattle.text_fields.proofs.Members.{each_passes, taken_more}
use Rattle.text_board.proofs.ChannelLists.{on_more}
use Rattle.text_board.proofs.channel_items.accesses_on.Goals as goal

pub access-requires-clause-byte : goal.access-requires-clause-byte
access-requires-clause-byte c =
    each_passes (λ (value : Value). may_do (view value)) c.args.values.now c.loop-place.place c.index-values-place.result c.requires.bytes c.loop-place-test.true c.index-values-place.is

pub returns-clause-held : goal.returns-clause-held
returns-clause-held c = rw (take_all c.loop-place.place c.args.values.now c.loop-place-test.false) at c.loop-place.invariant

pub loop-place-preserved : goal.loop-place-preserved
loop-place-preserved c =
    let values = c.args.values.now in
    let i = c.loop-place.place in
    let v = c.index-values-place.result in
    let n = c.args.channel.number in
    let before = c.loop-place.accesses.items in
    let a = c.access.result in
    let pushed : c.push.new.self.items ≡ before ++ a ∷ [] = c.in-Ok.ensures.items in
    let within : i ≤ length values = omega (arith, c.loop-place-test.true) in
    let long : length (map view (take i values)) ≡ i = length-map (take i values) view ∙ length-take-le i values within in
    rw (pushed, map-append)
    (ap (λ told. told ++ parts_of a ∷ []) c.loop-place.invariant
    ∙ ap (λ told. on_channel n 1 (map view (take i values)) ++ told ∷ []) (c.access.ensures ∙ ap (λ user. (n, (user, or_zero (natural (view v))))) (omega (arith, long)))
    ∙ sym (on_more n 1 (map view (take i values)) (view v))
    ∙ ap (on_channel n 1) (sym (taken_more values i v c.loop-place-test.true c.index-values-place.is)))

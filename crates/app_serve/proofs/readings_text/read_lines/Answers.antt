use Rattle.std.proofs.Common.{◌≡◌, ◌+◌, ◌++◌, ◌∷◌, ℕ, List, [], true, false, Bool, cond, not, is_ok, sym, ◌∙◌, ap, subst, map, take}
use Rattle.std.specs.Borrow.{Bor}
use Rattle.bmc_ports.specs.declared.timetable.Timed.{Timed}
use Rattle.app_serve.specs.ReadingsText.{NeverFalls, AreReadingLines}
use Rattle.app_serve.proofs.ReadingsLists.{goes_on, falls, next_told, none_told, silent_first, falling_first}
use Rattle.app_serve.proofs.readings_text.read_lines.Goals as goal

-- what stands where there is no line
none : Bor (List ℕ)
none = record { ref_ptr = (0, 0); now = [] }

pub returns-in_default-found : goal.returns-in_default-found
unfolding none
returns-in_default-found c =
    let silent = rw c.in_default-found.is at c.in-Ok.ensures in
    silent_first c.args.lines.now c.loop-place.place none c.loop-place-test.true (sym c.is_skipped.ensures ∙ c.if-is_skipped.false) c.loop-place.list.items c.loop-place.invariant silent

pub returns-then-not-comes_behind : goal.returns-then-not-comes_behind
unfolding none
returns-then-not-comes_behind c =
    let says = rw c.in-Some.is at c.in-Ok.ensures in
    falling_first c.args.lines.now c.loop-place.place none c.loop-place-test.true (sym c.is_skipped.ensures ∙ c.if-is_skipped.false) c.loop-place.list.items c.in-Some.timed c.loop-place.invariant says
    (falls c.as_slice.result.now c.loop-place.list.items c.in-Some.timed c.comes_behind.result c.as_slice.ensures.value c.comes_behind.ensures c.if-not-comes_behind.true)

pub loop-place-preserved : goal.loop-place-preserved
unfolding none
loop-place-preserved c =
    let says = rw c.in-Some.is at c.in-Ok.ensures in
    let right : is_ok c.push.result ≡ true = c.is_err.ensures.negation ∙ ap not c.if-is_err.false in
    let items : c.push.new.self.items ≡ c.loop-place.list.items ++ c.in-Some.timed ∷ [] =
    c.push.ensures.items ∙ ap (λ (b : Bool). cond b (c.loop-place.list.items ++ c.in-Some.timed ∷ []) c.loop-place.list.items) right in
    subst (λ (l : List Timed). AreReadingLines (map (λ x. x.now) (take (c.loop-place.place + 1) c.args.lines.now)) l) (sym items)
    (next_told c.args.lines.now c.loop-place.place none c.loop-place-test.true (sym c.is_skipped.ensures ∙ c.if-is_skipped.false) c.loop-place.list.items c.in-Some.timed c.loop-place.invariant says
    (goes_on c.as_slice.result.now c.loop-place.list.items c.in-Some.timed c.comes_behind.result c.as_slice.ensures.value c.comes_behind.ensures c.if-not-comes_behind.false))

pub loop-place-init : goal.loop-place-init
loop-place-init c = none_told c.new-list.result.items c.new-list.ensures.items

pub comes_behind-requires : goal.comes_behind-requires
comes_behind-requires c = subst (λ (l : List Timed). NeverFalls l) (sym c.as_slice.ensures.value) c.loop-place.invariant.order

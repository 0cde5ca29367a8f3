use Rattle.std.proofs.Common.{◌≡◌, ◌<◌, ◌+◌, ◌++◌, ◌∷◌, [], length, is_some, ◌∙◌, ap, arith}
use Rattle.std.proofs.lemmas.List.{take_all}
use Rattle.text_fields.specs.Users.{name_of}
use Rattle.text_board.specs.Holds.{IsNameIn}
use Rattle.text_fields.proofs.Members.{next_zip, each_view, read_so_far}
use Rattle.record_base.specs.declared.user.User.{User}
use Rattle.record_base.specs.InOrderLaws.{numbered_more}
use Rattle.text_board.proofs.users.users_of.Goals as goal

pub next_user-user-requires-clause-few : goal.next_user-user-requires-clause-few
next_user-user-requires-clause-few c =
    let values = c.args.values.now in
    let i = c.loop-value.value-index in
    let before = c.loop-value.users.items in
    let same : c.as_slice.result.now ≡ before = c.as_slice.ensures.value in
    let within : i < length values = c.loop-value-test.true in
    let so_far : length before ≡ i = read_so_far IsNameIn values i before (omega (arith, within)) c.loop-value.invariant.names in
    rw same (omega (arith, so_far, within, c.requires.few))

pub next_user-user-requires-clause-named : goal.next_user-user-requires-clause-named
next_user-user-requires-clause-named c =
    each_view (λ d. is_some (name_of d)) c.args.values.now c.loop-value.value-index c.value-item.result c.requires.named c.loop-value-test.true c.value-item.is

pub returns-clause-names : goal.returns-clause-names
returns-clause-names c = rw (take_all c.loop-value.value-index c.args.values.now c.loop-value-test.false) at c.loop-value.invariant.names

pub loop-value-preserved : goal.loop-value-preserved
loop-value-preserved c =
    let values = c.args.values.now in
    let i = c.loop-value.value-index in
    let v = c.value-item.result in
    let before = c.loop-value.users.items in
    let user = c.next_user-user.result in
    let pushed : c.push.new.self.items ≡ before ++ user ∷ [] = c.in-Ok.ensures.items in
    let same : c.as_slice.result.now ≡ before = c.as_slice.ensures.value in
    let numbered : user.number.number ≡ 1 + length before = c.next_user-user.ensures.numbered ∙ ap (λ users. 1 + length users) same in
    rw pushed (record {
      names = next_zip values i v c.loop-value-test.true c.value-item.is IsNameIn before user c.loop-value.invariant.names c.next_user-user.ensures.named;
      numbers = numbered_more (λ (u : User). u.number.number) 1 before user c.loop-value.invariant.numbers numbered;
    })

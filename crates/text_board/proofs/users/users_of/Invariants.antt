use Rattle.std.proofs.Common.{map, take}
use Rattle.std.specs.List.{AllZip}
use Rattle.toml.specs.View.{view}
use Rattle.record_base.specs.declared.user.User.{User}
use Rattle.record_base.specs.InOrder.{AreNumbered}
use Rattle.text_board.specs.Holds.{IsNameIn}
use Rattle.text_board.proofs.users.users_of.Given as goal

abbrev pub invariant-loop-value : goal.invariant-loop-value
invariant-loop-value l = record {
  names : AllZip IsNameIn (map view (take l.value-index l.values)) l.users.items;
  numbers : AreNumbered (λ (user : User). user.number.number) 1 l.users.items;
}

use Rattle.std.proofs.Common.{◌≡◌, length, take, nat_lt, true}
use Rattle.std.specs.List.{list_all}
use Rattle.text_fields.proofs.tree.all_bytes.Given as goal

abbrev pub invariant-loop-place : goal.invariant-loop-place
invariant-loop-place g l = (length l.bytes ≡ g.row.N) × ((take l.place l.bytes ≡ take l.place l.numbers) × (list_all (λ n. nat_lt n 256) (take l.place l.numbers) ≡ true))

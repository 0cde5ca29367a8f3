use Rattle.std.proofs.Common.{◌≡◌, ℕ, ◌+◌, ◌/◌, ◌%◌, ◌≤◌, List, length, set, arith}
use Rattle.std.proofs.lemmas.Grind.{common_steps}
use Rattle.cfg_records.specs.Image.{WroteAt}
use borrow.Rule.Slice.PartMut.{put_mid}
use Rattle.cfg_records.proofs.image.write_at.Goals as goal

-- the bytes after a length and a value were written at an offset
wrote : (old value part : List ℕ) (at count : ℕ) → at + 2 + length value ≤ length old → count ≡ length value → part ≡ value
    → WroteAt old (put_mid (at + 2) count (set (set old at (length value % 256)) (at + 1) (length value / 256)) part) at value
wrote old value part at count room all same = rw same record {
  same_length = grind (arith, common_steps);
  low = grind (arith, common_steps);
  high = grind (arith, common_steps);
  body = λ k less. grind (arith, common_steps);
  before = λ k less. grind (arith, common_steps);
  behind = λ k less. grind (arith, common_steps);
}

pub returns : goal.returns
returns c =
    wrote c.args.bytes.now c.args.value.now c.copy_from_slice.new.self c.args.at _ c.requires.room (omega arith) c.copy_from_slice.ensures.after

use Rattle.std.proofs.Common.{[], List, ℕ}
use Rattle.std.specs.Borrow.{Bor}
use Rattle.app_serve.proofs.ReadingsOnce.{cut, nothing}
use Rattle.app_serve.proofs.readings_line.timed.Goals as goal

-- what stands where there is no word
none : Bor (List ℕ)
none = record { ref_ptr = (0, 0); now = [] }

pub returns-in_default-bench : goal.returns-in_default-bench
unfolding none
returns-in_default-bench c =
    let silent = rw c.in_default-bench.is at c.bench.ensures in
    nothing _ _ _ (cut c.args.words.now none c.in-len1-up.len_at_least) silent

pub returns : goal.returns
unfolding none
returns c =
    let says = rw c.in-Some.is at c.bench.ensures in
    (_, _, cut c.args.words.now none c.in-len1-up.len_at_least, c.in_ok-at_ms.ensures, says)

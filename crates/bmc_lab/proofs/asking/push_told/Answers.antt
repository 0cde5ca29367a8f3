use Rattle.std.proofs.Common.{ℕ, List, [], inr, refl, string_bytes, sym}
use Rattle.std.proofs.lemmas.List.{append-nil}
use Rattle.bmc_lab.specs.Reply.{IsReplyIn}
use Rattle.bmc_lab.proofs.Found.{if_none}
use Rattle.bmc_lab.proofs.asking.push_told.Goals as goal

pub returns-in-None : goal.returns-in-None
returns-in-None c = (
  [],
  inr (if_none ((code : ℕ) (body : List ℕ) → ¬ IsReplyIn c.args.bus c.args.frames.now code body) c.in_ok-reply.field-0 c.in-None.is c.in_ok-reply.ensures.none, refl),
  sym (append-nil (string_bytes c.args.text.now)),
)

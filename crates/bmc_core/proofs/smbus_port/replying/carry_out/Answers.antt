use Rattle.std.proofs.Common.{◌<◌, ℕ, List, length, sym, ◌∙◌, subst, arith}
use Rattle.bmc_core.specs.declared.out.Disposition.TheVariants as done_as
use Rattle.bmc_core.specs.SmbusShown.{KeepsReply, ReplyPackets}
use Rattle.bmc_core.proofs.smbus_port.replying.carry_out.Goals as goal

pub keep-requires : goal.keep-requires
keep-requires g c =
    let done = c.in-Ok.ensures.answered in
    record {
      some = subst (λ (xs : List ℕ). 0 < length xs) (sym (c.as_slice.ensures.value ∙ done.reply_is)) (omega arith);
      fits = c.as_slice.ensures.fits;
    }

pub returns-in-Ok-clause-kept : goal.returns-in-Ok-clause-kept
returns-in-Ok-clause-kept g c =
    subst (λ (xs : List ℕ). KeepsReply c.args.windows.now c.args.request.now xs c.keep.new.windows) c.as_slice.ensures.value c.keep.ensures.kept

pub returns-in-Ok-clause-sent : goal.returns-in-Ok-clause-sent
returns-in-Ok-clause-sent g c =
    subst (λ (xs : List ℕ). ReplyPackets c.args.at.now c.args.request.now.envelope xs done_as.Answered c.keep.new.out) c.as_slice.ensures.value
    c.keep.ensures.sent

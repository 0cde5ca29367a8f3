use Rattle.std.proofs.Common.{◌≡◌, ◌-◌, List, ℕ, length, drop, take, Some, None, true, false, if◌then◌else◌, refl, ap, sym, ◌∙◌, length-drop}
use Rattle.std.proofs.Math.Seq.{take-length}
use Rattle.record_base.proofs.Operations.{same_thresholds}
use Rattle.sensor_recs.specs.Thresholds.{choose, zeros, shows_all, undo_thresholds}
use Rattle.sensor_recs.proofs.thresholds.ThresholdLimitsRecordKind.inverse.Goals as goal

pub returns-then-not-shows_all : goal.returns-then-not-shows_all
returns-then-not-shows_all c =
    let op = c.args.op.now in
    let reply : List ℕ = c.args.get_data.now in
    let hidden : shows_all op.mask reply ≡ false = sym c.shows_all.ensures ∙ c.if-not-shows_all.true in
    sym (ap (λ b. if b then Some (undo_thresholds op reply) else None) hidden)

pub returns : goal.returns
returns c =
    let op = c.args.op.now in
    let reply : List ℕ = c.args.get_data.now in
    let rest : take (length reply - 1) (drop 1 reply) ≡ drop 1 reply = ap (λ n. take n (drop 1 reply)) (sym (length-drop 1 reply)) ∙ take-length (drop 1 reply) in
    let values : c.choose.result ≡ choose op.mask (drop 1 reply) zeros = c.choose.ensures ∙ ap (λ (xs : List ℕ). choose op.mask xs zeros) rest in
    let shows : shows_all op.mask reply ≡ true = sym c.shows_all.ensures ∙ c.if-not-shows_all.false in
    ap Some (same_thresholds op.sensor op.mask c.choose.result _ _ refl values) ∙ sym (ap (λ b. if b then Some (undo_thresholds op reply) else None) shows)

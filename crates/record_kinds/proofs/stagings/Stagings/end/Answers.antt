use Rattle.std.proofs.Common.{rules, ◌≡◌, not, arith, ◌∙◌, ap}
use Rattle.std.proofs.lemmas.Fn.{filter_same}
use Rattle.std.proofs.lemmas.List.Elements.{All-filter}
use Rattle.record_kinds.specs.Stagings.{is_by, without}
use Rattle.record_kinds.specs.StagingsLaws.{BeginsEntry}
use Rattle.record_kinds.proofs.stagings.Stagings.end.Goals as goal

pub returns : goal.returns
returns c = filter_same _ (λ s. not (is_by c.args.from s)) _ (λ s b f' k. search rules) _ _ c.retain.ensures.filtered ∙ ap (without c.args.from) c.self.view_is

pub invariant_of-self : goal.invariant_of-self
invariant_of-self c =
    let left : c.retain.new.self.items ≡ without c.args.from c.self.inside.kept.items = filter_same _ (λ s. not (is_by c.args.from s)) _ (λ s b f' k. search rules) _ _ c.retain.ensures.filtered in
    record {
      few = omega (arith, c.retain.ensures.bound, c.self.invariant.few);
      reserved = rw c.retain.ensures.capacity c.self.invariant.reserved;
      begun = rw left (All-filter (λ s. not (is_by c.args.from s)) (λ s. BeginsEntry s.entry) c.self.inside.kept.items c.self.invariant.begun);
    }

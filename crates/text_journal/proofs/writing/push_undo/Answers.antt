use Rattle.std.proofs.Common.{◌≡◌, ◌++◌, ℕ, List, length, codes, arith, ◌∙◌, ap, subst, string_bytes}
use Rattle.text_lines.specs.Cuts.{ended}
use Rattle.undo_plans.specs.Requests.{meant}
use Rattle.text_journal.specs.JournalLines.{number_line, IsRequestLine}
use Rattle.text_journal.specs.Written.{request_line}
use Rattle.text_journal.proofs.Pushing.{Pushed, pushed_none, pushed_more, pushed_all, each_is}
use Rattle.text_journal.proofs.writing.push_undo.Goals as goal

pub loop-place-init : goal.loop-place-init
loop-place-init c =
    let line : string_bytes c.writeln.new.self ≡ string_bytes c.args.text.now ++ ended (number_line (codes "undo ") (length c.args.requests.now.members)) =
    c.in_ok-writeln.ensures.bytes ∙ ap (λ (n : ℕ). string_bytes c.args.text.now ++ ended (number_line (codes "undo ") n)) c.len-count.ensures.value in (
      omega arith,
      subst (λ (t : List ℕ). Pushed request_line (λ asked. IsRequestLine (request_line asked) asked) c.args.requests.now.members 0 t (string_bytes c.writeln.new.self)) line (pushed_none request_line (λ asked. IsRequestLine (request_line asked) asked) c.args.requests.now.members (string_bytes c.writeln.new.self)),
    )

pub loop-place-preserved : goal.loop-place-preserved
loop-place-preserved c =
    let got = rw c.unwrap-request.ensures at c.get.ensures.there in (
      omega (arith, c.loop-place-test.true, c.len-count.ensures.value),
      pushed_more request_line (λ asked. IsRequestLine (request_line asked) asked) c.args.requests.now.members c.loop-place.place (meant c.unwrap-request.result) (string_bytes c.args.text.now ++ (ended (number_line (codes "undo ") (length c.args.requests.now.members)))) (string_bytes c.loop-place.text) (string_bytes c.push_request.new.text)
          got c.loop-place.invariant.1 c.in_ok-push_request.ensures.text c.in_ok-push_request.ensures.line,
    )

pub returns-clause-text : goal.returns-clause-text
returns-clause-text c =
    pushed_all request_line (λ asked. IsRequestLine (request_line asked) asked) c.args.requests.now.members c.loop-place.place (string_bytes c.args.text.now) (ended (number_line (codes "undo ") (length c.args.requests.now.members))) (string_bytes c.loop-place.text) (omega (arith, c.loop-place-test.false, c.len-count.ensures.value)) c.loop-place.invariant.1

pub returns-clause-lines : goal.returns-clause-lines
returns-clause-lines c =
    each_is request_line (λ asked. IsRequestLine (request_line asked) asked) c.args.requests.now.members c.loop-place.place (string_bytes c.args.text.now ++ (ended (number_line (codes "undo ") (length c.args.requests.now.members)))) (string_bytes c.loop-place.text) (omega (arith, c.loop-place-test.false, c.len-count.ensures.value)) c.loop-place.invariant.1

pub returns-clause-few : goal.returns-clause-few
returns-clause-few c = omega (arith, c.len-count.ensures.value, c.len-count.ensures.few)

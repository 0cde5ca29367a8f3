use Rattle.std.proofs.Common.{◌≡◌, ◌++◌, ℕ, List, codes, string_bytes, subst}
use Rattle.std.specs.Prelude.{OnOk}
use Rattle.text_journal.proofs.WrittenBytes.{on_ok, none_waits, some_waits}
use Rattle.text_journal.proofs.writing.push_waiting.Goals as goal

pub returns-in-None-clause-text : goal.returns-in-None-clause-text
returns-in-None-clause-text c =
    subst (λ (l : List ℕ). OnOk c.push_str.result (string_bytes c.push_str.new.self ≡ string_bytes c.args.text.now ++ l)) (none_waits c.args.waiting.now c.in-None.is)
    (on_ok c.push_str.result (string_bytes c.push_str.new.self) (string_bytes c.args.text.now ++ codes "waiting 0\n") (string_bytes c.args.text.now) c.push_str.ensures.bytes)

pub returns-in_ok-push_str-in-Some-clause-text : goal.returns-in_ok-push_str-in-Some-clause-text
returns-in_ok-push_str-in-Some-clause-text c =
    subst (λ (l : List ℕ). OnOk c.push_request.result (string_bytes c.push_request.new.text ≡ l))
    (some_waits c.args.waiting.now c.in-Some.request (string_bytes c.args.text.now) (string_bytes c.push_str-in-Some.new.self) c.in-Some.is c.in_ok-push_str-in-Some.ensures.bytes)
    c.push_request.ensures.text

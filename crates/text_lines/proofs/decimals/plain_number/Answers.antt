use Rattle.std.proofs.Common.{◌≡◌, ◌≢◌, ◌<◌, ◌^◌, ℕ, Option, IfSome, IfNone, sym, subst, length, get_or}
use Rattle.std.specs.Fmt.{decimal}
use Rattle.text_lines.proofs.Numerals.{plain, no_sign, no_lead, differ, agree, lead_alone}
use Rattle.text_lines.proofs.decimals.plain_number.Goals as goal

pub returns-then-begins_with-clause-none : goal.returns-then-begins_with-clause-none
returns-then-begins_with-clause-none c n low =
    no_sign c.args.word.now n low (agree (get_or c.args.word.now 0 0) 43 c.begins_with.result c.if-begins_with.true c.begins_with.ensures)

pub returns-then-word-gt1-clause-none : goal.returns-then-word-gt1-clause-none
returns-then-word-gt1-clause-none c n low =
    no_lead c.args.word.now n low (agree (get_or c.args.word.now 0 0) 48 c.begins_with-2.result c.if-begins_with-2.true c.begins_with-2.ensures) c.if-word-gt1.true

read : (c : goal.After-ok) → IfSome c.ok.result (λ n. (n < 2 ^ 32) × (c.args.word.now ≡ decimal n)) × IfNone c.ok.result ((n : ℕ) → n < 2 ^ 32 → c.args.word.now ≢ decimal n)
read c =
    let word = c.args.word.now in
    let first = differ (get_or word 0 0) 43 c.begins_with.result c.if-begins_with.false c.begins_with.ensures in
    let lead = lead_alone (get_or word 0 0) (length word) c.begins_with-2.result c.else-begins_with-2.either c.begins_with-2.ensures in
    subst (λ (o : Option ℕ). IfSome o (λ n. (n < 2 ^ 32) × (word ≡ decimal n)) × IfNone o ((n : ℕ) → n < 2 ^ 32 → word ≢ decimal n)) (sym c.ok.ensures.value)
    (plain word c.parse.result c.parse.ensures.value.0 first lead)

pub returns-clause-some : goal.returns-clause-some
returns-clause-some c = (read c).0

pub returns-clause-none : goal.returns-clause-none
returns-clause-none c = (read c).1

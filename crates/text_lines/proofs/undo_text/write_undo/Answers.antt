use Rattle.std.proofs.Common.{◌≡◌, ◌++◌, ◌∷◌, [], ℕ, List, map, reverse, refl, sym, ◌∙◌, ap, append_assoc, codes, string_bytes, arith}
use Rattle.std.specs.List.{flat_map}
use Rattle.std.specs.Fmt.{decimal}
use Rattle.std.proofs.lemmas.Grind.{flat_map-append}
use Rattle.std.proofs.lemmas.List.{length-map, length-reverse}
use Rattle.text_lines.specs.Cuts.{ended}
use Rattle.text_lines.specs.Versions.{version_line}
use Rattle.text_lines.specs.UndoText.{version_of, numbers_line, names_lines, line_of, text_of}
use Rattle.text_lines.proofs.undo_text.write_undo.Goals as goal
use Rattle.text_lines.proofs.undo_text.write_undo.Goals.{In_ok-push_requests}

-- the line of the numbers with its line feed, as it is written
numbers_ended : (ipmb smbus : List ℕ)
    → codes "next ipmb " ++ (ipmb ++ (codes " smbus " ++ (smbus ++ 10 ∷ []))) ≡ ended (codes "next ipmb " ++ (ipmb ++ (codes " smbus " ++ smbus)))
numbers_ended ipmb smbus = ap (λ (l : List ℕ). codes "next ipmb " ++ l) (sym (append_assoc ipmb (codes " smbus " ++ smbus) (10 ∷ [])))

-- what is written one behind another is the text
whole : (version numbers begun numbered named text : List ℕ) (names lines : List (List ℕ)) → begun ≡ ended version → numbered ≡ begun ++ ended numbers → named ≡ numbered ++ flat_map ended names → text ≡ named ++ flat_map ended lines
    → text ≡ flat_map ended (version ∷ numbers ∷ (names ++ lines))
whole version numbers begun numbered named text names lines first second third last =
    let behind = flat_map ended names ++ flat_map ended lines in
    last ∙ ap (λ (l : List ℕ). l ++ flat_map ended lines) third ∙ append_assoc numbered (flat_map ended names) (flat_map ended lines)
    ∙ ap (λ (l : List ℕ). l ++ behind) (second ∙ ap (λ (l : List ℕ). l ++ ended numbers) first) ∙ append_assoc (ended version) (ended numbers) behind
    ∙ ap (λ (l : List ℕ). ended version ++ (ended numbers ++ l)) (sym (flat_map-append ended names lines))

the_text : (c : In_ok-push_requests) → string_bytes c.push_requests.new.text ≡ text_of c.args.list.now
the_text c =
    let list = c.args.list.now in
    let ipmb : decimal c.number-ipmb.result ≡ decimal list.next.ipmb = ap decimal c.number-ipmb.ensures.value in
    let smbus : decimal c.number-smbus.result ≡ decimal list.next.smbus = ap decimal c.number-smbus.ensures.value in
    let line : codes "next ipmb " ++ (decimal c.number-ipmb.result ++ (codes " smbus " ++ (decimal c.number-smbus.result ++ 10 ∷ []))) ≡ ended (numbers_line list.next) =
    numbers_ended _ _ ∙ (λ i. ended (codes "next ipmb " ++ (ipmb i ++ (codes " smbus " ++ smbus i)))) in
    whole (version_line (version_of list.names)) (numbers_line list.next) (string_bytes c.in_ok-text.text) (string_bytes c.writeln.new.self) (string_bytes c.push_names_line.new.text) (string_bytes c.push_requests.new.text) (names_lines list.names) (map line_of (reverse list.requests.members))
    (c.in_ok-text.ensures.ok ∙ c.version_text.ensures) (c.in_ok-writeln.ensures.bytes ∙ ap (λ (l : List ℕ). string_bytes c.in_ok-text.text ++ l) line) c.in_ok-push_names_line.ensures.text c.in_ok-push_requests.ensures.text

pub returns-clause-text : goal.returns-clause-text
returns-clause-text c = the_text c

pub returns-clause-stands : goal.returns-clause-stands
returns-clause-stands c = λ plain.
    let list = c.args.list.now in
    let lines = map line_of (reverse list.requests.members) in
    record {
      names = names_lines list.names;
      lines = lines;
      spelt = the_text c;
      next = record { spelt = refl; ipmb = omega (arith, c.number-ipmb.ensures.value, c.number-ipmb.ensures.below); smbus = omega (arith, c.number-smbus.ensures.value, c.number-smbus.ensures.below) };
      named = c.in_ok-push_names_line.ensures.lines;
      each = c.in_ok-push_requests.ensures.lines plain;
      few = omega (arith, length-map (reverse list.requests.members) line_of, length-reverse list.requests.members, c.in_ok-push_requests.ensures.few);
    }

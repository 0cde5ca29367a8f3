use Rattle.std.proofs.Common.{◌≡◌, ◌%◌, ℕ, ◌∙◌, sym, ap, subst}
use Rattle.text_lines.specs.UndoText.{IsPair}
use Rattle.text_lines.proofs.NamesLines.{pair_behind, second_is, pair_read}
use Rattle.text_lines.proofs.undo_names.first_places.Goals as goal

pub returns-in_default-first_byte-clause-none : goal.returns-in_default-first_byte-clause-none
returns-in_default-first_byte-clause-none c words own peer rest is even e =
    let first = c.in-Some.ensures.some in
    c.in_default-first_byte.ensures.none is.peer_digits peer rest is.peer_read (pair_behind c.args.text.now first.0 c.in-Some.first.1.now words rest c.in-Some.first.0 own peer first.1 first.2 e is).1

pub returns-in_default-new-clause-none : goal.returns-in_default-new-clause-none
returns-in_default-new-clause-none c words own peer rest is even e =
    let first = c.in-Some.ensures.some in
    let same : c.in-Some.first.0 ≡ own = (pair_behind c.args.text.now first.0 c.in-Some.first.1.now words rest c.in-Some.first.0 own peer first.1 first.2 e is).0 in
    c.in_default-new.ensures (ap (λ (n : ℕ). n % 2) same ∙ even.0)

pub returns-in-Some-new-2-clause-some : goal.returns-in-Some-new-2-clause-some
returns-in-Some-new-2-clause-some c =
    let first = c.in-Some.ensures.some in
    let second = c.in-Some-first_byte.ensures.some in
    let own = c.in-Some-new.ensures in
    let peer = c.in-Some-new-2.ensures in
    let read = pair_read c.args.text.now first.0 second.0 c.in-Some-first_byte.second.1.now c.in-Some.first.1.now c.in-Some.first.0 c.in-Some-first_byte.second.0 first.1 first.2 second.1 second.2 in (
      read.0,
      read.1,
      subst (λ (x : ℕ × ℕ). IsPair read.0 x.0 x.1) (λ i. (sym own.1 i, sym peer.1 i)) read.2,
      (ap (λ (n : ℕ). n % 2) own.1 ∙ own.0, ap (λ (n : ℕ). n % 2) peer.1 ∙ peer.0),
    )

pub returns-in-None-clause-none : goal.returns-in-None-clause-none
returns-in-None-clause-none c words own peer rest is even e =
    let first = c.in-Some.ensures.some in
    let second = c.in-Some-first_byte.ensures.some in
    let behind = (pair_behind c.args.text.now first.0 c.in-Some.first.1.now words rest c.in-Some.first.0 own peer first.1 first.2 e is).1 in
    let same : c.in-Some-first_byte.second.0 ≡ peer = second_is c.in-Some.first.1.now second.0 c.in-Some-first_byte.second.1.now words rest c.in-Some-first_byte.second.0 own peer second.1 second.2 is behind in
    c.in-None.ensures (ap (λ (n : ℕ). n % 2) same ∙ even.1)

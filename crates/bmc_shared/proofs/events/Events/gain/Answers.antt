use Rattle.std.specs.Prelude.{All}
use Rattle.std.proofs.Common.{◌≡◌, ℕ, List, [], ◌∷◌, ◌+◌, ◌++◌, length, take, drop, map, ap, sym, ◌∙◌, subst, arith}
use Rattle.std.proofs.lemmas.List.{length-take-le}
use Rattle.bmc_shared.specs.declared.event.Event.{Event}
use Rattle.bmc_shared.specs.declared.entry.Mark.{Mark}
use Rattle.bmc_shared.specs.Entries.{call_of, event_of, EntryLies}
use Rattle.bmc_shared.proofs.Lying.{whole, mark_behind, events_gained}
use Rattle.bmc_shared.proofs.events.Events.gain.Goals as goal

pub returns-clause-items : goal.returns-clause-items
returns-clause-items c =
    let list = c.self.inside in
    let room = c.self.invariant.1 in
    let marks : List Mark = list.marks.items in
    let old : List ℕ = list.bytes.items in
    let new : List ℕ = c.put-2.new.bytes in
    let written : ℕ = list.written in
    let request : List ℕ = c.args.request.now in
    let reply : List ℕ = c.args.reply.now in
    let bytes : List ℕ = take written old in
    let start : written ≡ length bytes = sym (length-take-le written old (omega (arith, room.few, room.short, room.bytes_fit))) in
    let lent = c.as_mut_slice-bytes.ensures.value in
    let same_length : length new ≡ length old = c.put-2.ensures.length ∙ c.put.ensures.length ∙ ap length lent in
    let all : take list.bytes.len (new ++ drop (length new) old) ≡ new = whole old new list.bytes.len (omega (arith, list.bytes.ok.0)) same_length in
    let more : take (written + length request) c.put.new.bytes ≡ bytes ++ request = c.put.ensures.put ∙ ap (λ (xs : List ℕ). take written xs ++ request) lent in
    let end : ℕ = written + length request + length reply in
    let most : take end new ≡ (bytes ++ request) ++ reply = c.put-2.ensures.put ∙ ap (λ (xs : List ℕ). xs ++ reply) more in
    let marked : c.push_reserved.new.self.items ≡ marks ++ mark_behind c.args.seat c.args.head bytes request reply ∷ [] =
    c.push_reserved.ensures.items ∙ (λ i. marks ++ record {
      seat = c.args.seat;
      head = c.args.head;
      request = start i;
      reply = start i + length request;
      end = start i + length request + length reply;
    } ∷ []) in
    let event : Event = record { seat = c.args.seat; call = call_of c.args.head request reply } in
    (λ i. map (event_of ((ap (take end) all ∙ most) i)) (marked i))
    ∙ events_gained c.args.seat c.args.head marks bytes request reply (subst (λ (n : ℕ). All (EntryLies n) marks) start c.self.invariant.0)
    ∙ ap (λ (events : List Event). events ++ event ∷ []) (ap (λ l. l.items) c.self.view_is)

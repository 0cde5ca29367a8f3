use Rattle.std.proofs.Common.{◌≡◌, length}
use Rattle.bmc_shared.specs.Seated.{SeatMatches, calls_made}
use Rattle.bmc_shared.proofs.Keeping.{holds_of_list}
use Rattle.bmc_shared.proofs.shared.Shared.close.Goals as goal

pub returns : goal.returns
returns g c =
    let closed = c.close.result in
    let said = c.close.ensures in
    let room = g.J.Opening.room in
    let seats = c.args.seats in
    let items = c.into_inner.result.held.history.items in
    record {
      setup = said.setup;
      replays = said.replays;
      within = said.within;
      first = holds_of_list closed (λ both. both.1) items (λ list. SeatMatches room list 0 seats.first) said.history (λ ok. (said.exact.0 ok).0);
      second = holds_of_list closed (λ both. both.1) items (λ list. SeatMatches room list 1 seats.second) said.history (λ ok. (said.exact.0 ok).1);
      scanner = holds_of_list closed (λ both. both.1) items (λ list. SeatMatches room list 2 seats.scanner) said.history (λ ok. (said.exact.0 ok).2);
      counted = holds_of_list closed (λ both. both.1) items (λ list. length list ≡ calls_made seats) said.history (λ ok. said.counted);
      fault = said.fault;
    }

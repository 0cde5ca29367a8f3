use Rattle.std.proofs.Common.{◌≡◌, Err, Some, sym, ap, subst, codes, map, string_bytes}
use Rattle.clap.specs.Words.{all_of, found_of, rows_of}
use Rattle.app_base.proofs.Readings.{refuses_more, refuses_on}
use Rattle.bmc_lab.specs.Request.{AsksForRequest}
use Rattle.app_bmclab.proofs.Readings.{request_asked, request_refuses}
use Rattle.app_bmclab.proofs.ask_words.ask_words.Goals as goal

pub returns-in_err-bytes-clause-refused : goal.returns-in_err-bytes-clause-refused
returns-in_err-bytes-clause-refused c =
    refuses_on _ _ _ _ c.from_residual.ensures.1 (λ asked asks. (asks.words, asks.given)) c.in_err-bytes.ensures.refused

pub returns-clause-refused : goal.returns-clause-refused
returns-clause-refused c =
    let bus = sym c.word_of-bus.ensures in
    let given = subst (λ words. all_of (codes "BYTE") (rows_of (found_of c.args.matches.now)) ≡ Some (map string_bytes words)) (sym c.as_slice.ensures.value) c.in_ok-bytes.ensures.words in
    refuses_more _ _ _ (request_asked (rows_of (found_of c.args.matches.now)) _ _ bus given)
    (request_refuses _ _ _ _ c.in-Err.ensures.faults (λ words. c.in-Err.ensures.refused (ap Err words)) c.request_refusal.ensures)

pub returns-in-Ok-clause-asked : goal.returns-in-Ok-clause-asked
returns-in-Ok-clause-asked c =
    let bus = sym c.word_of-bus.ensures in
    let given = subst (λ words. all_of (codes "BYTE") (rows_of (found_of c.args.matches.now)) ≡ Some (map string_bytes words)) (sym c.as_slice.ensures.value) c.in_ok-bytes.ensures.words in
    record {
      board = c.in_ok-board.ensures.word;
      words = map string_bytes c.as_slice.result.now;
      given = given;
      request = subst (λ word. AsksForRequest word (map string_bytes c.as_slice.result.now) c.in-Ok.request) (sym bus) c.in-Ok.ensures.asked;
    }

-- Where each series is one request, a plan runs through by two requests for each step.
use Rattle.std.proofs.Common.{◌≡◌, ◌≢◌, ℕ, ◌+◌, List, [], ◌∷◌, length, Option, Some, None, refl, sym, ◌∙◌, ap, subst, arith}
use Rattle.std.specs.Prelude.{IfSome, slice_get}
use Rattle.std.proofs.lemmas.Option.{none-some}
use Rattle.two_wire.specs.Codes.{success}
use Rattle.model_bus.specs.Answered.{Answered}
use Rattle.model_undo.specs.Words.{Words, IsNext, AreSingle}
use Rattle.model_undo.specs.Family.{Family}
use Rattle.model_undo.specs.IsFamily.{IsFamily}
use Rattle.model_undo.specs.declared.phase.Why.{Why}
use Rattle.model_undo.specs.declared.phase.Why.TheVariants.{Stop, Refused, NotRestorable, GetRefused}
use Rattle.model_undo.specs.declared.phase.Phase.{Phase}
use Rattle.model_undo.specs.declared.phase.Phase.TheVariants.{Undone}
use Rattle.model_undo.specs.Plan.{IsAfter}
use Rattle.model_undo.specs.Machine.{Turn, enters, first_stage, undo_of, opened}
use Rattle.model_undo.specs.Clean.{Moment, AnswersByRow, clean, got, CarriesStep, GoAll, HaltsStep, EndsIn, IsAtRest, RunsClean, AlwaysRunsClean}
use Rattle.model_undo.specs.CleanSeries as series
use Rattle.model_undo.specs.CleanSeries.{AreFinite, SeriesAnswered, AnswersAll, RefusesOne, AnswersEach, RunsThrough}
use Rattle.model_undo.proofs.CleanSeries.{always_runs_through}

pub are_finite : (M : Words) → AreSingle M → AreFinite M
are_finite M single series made = (1, λ bodies some. single.none_next series bodies)

module _ (F : Family) (single : AreSingle F.words) (answer : F.Board → F.words.Asked → Answered × F.Board) where
  -- the only reply to a series
  record OneReply (series : F.words.Series) (bodies : List (List ℕ)) (b after : F.Board) : Type 0 where
    read : (answer b (F.words.first series)).0.code ≡ success
    shows : F.words.joined series bodies ≡ (answer b (F.words.first series)).0.body
    left : after ≡ (answer b (F.words.first series)).1
    count : length bodies ≡ 1

  one_reply : (series : F.words.Series) (bodies : List (List ℕ)) (b after : F.Board) → AnswersAll F answer series bodies b after → OneReply series bodies b after
  one_reply series [] b after h = absurd (h.some refl)
  one_reply series (body ∷ []) b after h =
      let r = h.replied in
      let is : (answer b (F.words.first series)).0 ≡ record { code = success; body = body } = subst (λ (asked : F.words.Asked). (answer b asked).0 ≡ record { code = success; body = body }) r.1 r.2 in
      record {
        read = ap (λ (a : Answered). a.code) is;
        shows = single.shows_it series body ∙ sym (ap (λ (a : Answered). a.body) is);
        left = subst (λ (asked : F.words.Asked). after ≡ (answer b asked).1) r.1 r.3;
        count = refl;
      }
  one_reply series (body ∷ other ∷ bodies) b after h =
      let two = h.replied.3 in
      absurd (none-some two.0 (sym (single.none_next series (body ∷ [])) ∙ two.1))

  -- and the only refusal
  record OneRefusal (series : F.words.Series) (code requests : ℕ) (b : F.Board) : Type 0 where
    refused : (answer b (F.words.first series)).0.code ≡ code
    fault : code ≢ success
    count : requests ≡ 1

  refusal_where : (series : F.words.Series) (code requests : ℕ) (b : F.Board) (h : RefusesOne F answer series code requests b) (bodies : List (List ℕ)) → SeriesAnswered F answer series [] bodies b h.mid → IsNext F.words series bodies h.asked
      → requests ≡ length bodies + 1 → OneRefusal series code requests b
  refusal_where series code requests b h [] at is count = record {
    refused = subst (λ (asked : F.words.Asked). (answer b asked).0.code ≡ code) is (subst (λ (c : F.Board). (answer c h.asked).0.code ≡ code) at h.refused);
    fault = h.fault;
    count = count;
  }
  refusal_where series code requests b h (body ∷ bodies) at is count = absurd (none-some h.asked (sym (single.none_next series (body ∷ bodies)) ∙ is))

  one_refusal : (series : F.words.Series) (code requests : ℕ) (b : F.Board) → RefusesOne F answer series code requests b → OneRefusal series code requests b
  one_refusal series code requests b h = refusal_where series code requests b h h.bodies h.replied h.is_next h.counted

  -- ---- steps

  -- a step's Get was answered, from which the step can be undone or can't
  record Read (op : F.words.Op) (bodies : List (List ℕ)) (b mid : F.Board) : Type 0 where
    read : (got F answer b op).0.code ≡ success
    shows : series.shown F answer op bodies ≡ (got F answer b op).0.body
    left : mid ≡ (got F answer b op).1
    count : length bodies ≡ 1

  read_by : (op : F.words.Op) (bodies : List (List ℕ)) (b mid : F.Board) → AnswersAll F answer (F.words.getting (F.words.key_of op)) bodies b mid → Read op bodies b mid
  read_by op bodies b mid h =
      let one = one_reply (F.words.getting (F.words.key_of op)) bodies b mid h in
      record { read = one.read; shows = one.shows; left = one.left; count = one.count }

  goes : (b : F.Board) (op : F.words.Op) (n : ℕ) (after : F.Board) → series.CarriesSeries F answer b op n after → CarriesStep F answer b op after × (n ≡ 2)
  goes b op n after g =
      let r = read_by op g.got b g.mid g.read in
      let d = one_reply (F.words.setting op) g.put (got F answer b op).1 after (subst (λ (c : F.Board). AnswersAll F answer (F.words.setting op) g.put c after) r.left g.done) in
      let all = g.counted in let c1 = r.count in let c2 = d.count in
      (record { read = r.read; can_undo = subst (F.Restorable op) r.shows g.can_undo; done = d.read; left = d.left }, omega arith)

  pub go_all : (ops : List F.words.Op) (n : ℕ) (b after : F.Board) → series.GoAll F answer ops n b after → GoAll F answer ops b after × (n ≡ length ops + length ops)
  go_all [] n b after g = (g.0, g.1)
  go_all (op ∷ ops) n b after g =
      let first = goes b op g.1 g.0 g.3 in
      let rest = go_all ops g.2 g.0 after g.4 in
      let one = first.1 in let more = rest.1 in let all = g.5 in
      ((g.0, first.0, rest.0), omega arith)

  stuck : (b : F.Board) (op : F.words.Op) (why : Why) (n : ℕ) → series.HaltsSeries F answer b op why n → HaltsStep F answer b op why n
  stuck b op Stop n s = absurd s
  stuck b op (GetRefused code) n s = let one = one_refusal (F.words.getting (F.words.key_of op)) code n b s in (one.refused, one.fault, one.count)
  stuck b op NotRestorable n s =
      let r = read_by op s.0 b s.1 s.2 in
      (r.read, subst (λ (body : List ℕ). ¬ F.Restorable op body) r.shows s.3, s.4 ∙ r.count)
  stuck b op (Refused code) n s =
      let r = read_by op s.got b s.mid s.read in
      let one = one_refusal (F.words.setting op) code s.sets (got F answer b op).1 (subst (RefusesOne F answer (F.words.setting op) code s.sets) r.left s.refuses) in
      let all = s.counted in let c1 = r.count in let c2 = one.count in
      (r.read, subst (F.Restorable op) r.shows s.can_undo, one.refused, one.fault, omega arith)

  pub ends_so : (k : ℕ) (ops : List F.words.Op) (b : F.Board) (phase : Phase) (n : ℕ) → series.EndsIn F answer k ops b phase n → EndsIn F answer k ops b phase n
  ends_so k [] b phase n e = e
  ends_so k (op ∷ ops) b phase n e = (e.0, stuck b op e.0 n e.1, e.2)

  pub each_one : (us : List F.words.Series) (n : ℕ) (b after : F.Board) → AnswersEach F answer us n b after → n ≡ length us
  each_one [] n b after h = h.1
  each_one (u ∷ us) n b after h =
      let one = one_reply u h.0 b h.1 h.3 in
      let c1 = one.count in let rest = each_one us h.2 h.1 after h.4 in let all = h.5 in
      omega arith

  -- ---- a run

  -- each series of the undo is one request
  undo_so : (k n back : ℕ) (board : F.Board) (x : Moment F) → length x.turn.machine.undo ≡ k → (o : Option (Turn F.words))
      → IfSome o (λ t. let y = clean F answer back (record { turn = t; board = x.board }) in IsAtRest F answer y Undone (n + back) × (F.records y.board ≡ F.records board) × AnswersEach F answer x.turn.machine.undo back x.board y.board)
      → IfSome o (λ t. let y = clean F answer k (record { turn = t; board = x.board }) in IsAtRest F answer y Undone (n + k) × (F.records y.board ≡ F.records board))
  undo_so k n back board x many None u = tt
  undo_so k n back board x many (Some t) u =
      let y = clean F answer back (record { turn = t; board = x.board }) in
      let count : back ≡ k = each_one x.turn.machine.undo back x.board y.board u.2 ∙ many in
      subst (λ (j : ℕ). let z = clean F answer j (record { turn = t; board = x.board }) in IsAtRest F answer z Undone (n + j) × (F.records z.board ≡ F.records board)) count (u.0, u.1)

  pub runs_clean : (plan : List F.words.Op) (board : F.Board) (begun : Moment F) → RunsThrough F answer plan board begun → RunsClean F answer plan board begun
  runs_clean plan board begun r =
      let k = length r.steps in
      let all = go_all r.steps r.requests board r.at r.go in
      let n_is : r.requests + r.more ≡ k + k + r.more = ap (λ (n : ℕ). n + r.more) all.1 in
      record {
        steps = r.steps;
        rest = r.rest;
        whole = r.whole;
        at = r.at;
        go = all.0;
        phase = r.phase;
        more = r.more;
        ends = ends_so k r.rest r.at r.phase r.more r.ends;
        run = subst (λ (n : ℕ). IsAtRest F answer (clean F answer n begun) r.phase n × IsAfter F plan (F.records board) k (F.records (clean F answer n begun).board)) n_is r.run;
        undo = subst (λ (n : ℕ). let x = clean F answer n begun in IfSome (undo_of F.words x.turn.machine) (λ t. let y = clean F answer k (record { turn = t; board = x.board }) in IsAtRest F answer y Undone (n + k) × (F.records y.board ≡ F.records board))) n_is
            (undo_so k (r.requests + r.more) r.back board (clean F answer (r.requests + r.more) begun) r.undo_each (undo_of F.words (clean F answer (r.requests + r.more) begun).turn.machine) r.undo);
        undo_is_taken = subst (λ (n : ℕ). undo_of F.words (clean F answer n begun).turn.machine ≢ None) n_is r.undo_is_taken;
      }

pub always_runs_clean : (F : Family) → IsFamily F → AreSingle F.words → (answer : F.Board → F.words.Asked → Answered × F.Board) → AnswersByRow F answer → AlwaysRunsClean F answer
always_runs_clean F laws single answer by_row plan retries board valid free =
    runs_clean F single answer plan board (record { turn = enters F.words (first_stage F.words (slice_get plan 0)) (opened F.words plan retries); board = board })
    (always_runs_through F laws (are_finite F.words single) answer by_row plan retries board valid free)

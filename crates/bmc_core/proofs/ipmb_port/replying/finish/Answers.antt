use Rattle.std.proofs.Common.{◌≡◌, ◌≤◌, ◌<◌, ◌+◌, ℕ, List, ◌++◌, length, Result, Ok, Err, refl, sym, ◌∙◌, ap, subst, arith, lit≤}
use Rattle.std.proofs.lemmas.List.{append-nil, length-append}
use Rattle.two_wire.specs.Sizes.{most_frame_bytes}
use Rattle.ipmb_frame.specs.declared.message.Header.{Header}
use Rattle.ipmb_frame.specs.Grammar.{response_start}
use Rattle.record_base.specs.declared.message.Answered.{Answered as Reply}
use Rattle.bmc_board.specs.Gives.{GivesReply}
use Rattle.bmc_core.proofs.ipmb_port.replying.finish.Goals as goal

-- the data of an answer stand behind the start of its response
done_frame : {A : Type 0} (a : A) (result : Result A ℕ) (h : Header) (start whole : List ℕ) (answer : Reply)
    → result ≡ Ok a → start ≡ response_start h 0 → GivesReply result start whole answer → whole ≡ response_start h answer.code ++ answer.body
done_frame {A} a result h start whole answer is starts gives =
    let at : GivesReply (let r : Result A ℕ = Ok a in r) start whole answer = subst (λ (r : Result A ℕ). GivesReply r start whole answer) is gives in
    at.1 ∙ ap (λ (xs : List ℕ). xs ++ answer.body) (starts ∙ ap (response_start h) (sym at.0))

-- a refusal is the start alone
refused_frame : {A : Type 0} (code : ℕ) (result : Result A ℕ) (h : Header) (start whole made : List ℕ) (answer : Reply)
    → result ≡ Err code → made ≡ response_start h code → GivesReply result start whole answer → made ≡ response_start h answer.code ++ answer.body
refused_frame {A} code result h start whole made answer is starts gives =
    let at : GivesReply (let r : Result A ℕ = Err code in r) start whole answer = subst (λ (r : Result A ℕ). GivesReply r start whole answer) is gives in
    starts ∙ sym (append-nil (response_start h code)) ∙ ap (λ (a : Reply). response_start h a.code ++ a.body) (sym at.0)

-- the frame of a response with so few bytes of data has a start, and room for its check byte
has_room : (h : Header) (code : ℕ) (body frame : List ℕ) → length body ≤ 24 → frame ≡ response_start h code ++ body → (3 ≤ length frame) × (length frame < most_frame_bytes)
has_room h code body frame few is =
    let least : 3 ≤ length (response_start h code) = lit≤ tt in
    let start : length (response_start h code) ≤ 8 = lit≤ tt in
    let whole : length frame ≡ length (response_start h code) + length body = ap length is ∙ length-append (response_start h code) body in
    (omega (arith, least, whole), omega (arith, start, whole, few))

pub returns-in-Ok : goal.returns-in-Ok
returns-in-Ok c a gives few =
    let header = c.args.header.now in
    c.end_response.ensures.response header a.code a.body c.requires.header few
    (done_frame _ c.args.given header (response_start header 0) c.args.frame.now a c.in-Ok.is refl gives)

pub end_response-requires : goal.end_response-requires
end_response-requires c =
    let header = c.args.header.now in
    let a = c.requires.answered in
    let both = has_room header a.code a.body c.args.frame.now c.requires.fits
    (done_frame _ c.args.given header (response_start header 0) c.args.frame.now a c.in-Ok.is refl c.requires.gives) in
    record { started = both.0; room = both.1 }

pub returns-in-Err : goal.returns-in-Err
returns-in-Err c a gives few =
    let header = c.args.header.now in
    c.end_response-in-Err.ensures.response header a.code a.body c.requires.header few
    (refused_frame c.in-Err.code c.args.given header (response_start header 0) c.args.frame.now c.begin_response.new.frame a c.in-Err.is
    (c.begin_response.ensures.started ∙ ap (response_start header) c.value.ensures.value) gives)

pub end_response-requires-in-Err : goal.end_response-requires-in-Err
end_response-requires-in-Err c =
    let header = c.args.header.now in
    let a = c.requires.answered in
    let both = has_room header a.code a.body c.begin_response.new.frame c.requires.fits
    (refused_frame c.in-Err.code c.args.given header (response_start header 0) c.args.frame.now c.begin_response.new.frame a c.in-Err.is
    (c.begin_response.ensures.started ∙ ap (response_start header) c.value.ensures.value) c.requires.gives) in
    record { started = both.0; room = both.1 }

use Rattle.std.proofs.Common.{◌≡◌, ℕ, List, [], ◌∷◌, ◌++◌, Result, Ok, Err, ◌∙◌, ap, rules}
use Rattle.mctp_net.specs.declared.control_fault.ControlFault.{ControlFault}
use Rattle.mctp_net.specs.Control.{coded, code_of, shown_for}
use Rattle.mctp_net.proofs.endpoint.Endpoint.reply.Goals as goal

-- what stands before the completion code
lead : (empty one two three : List ℕ) (instance command : ℕ) → empty ≡ [] → one ≡ empty ++ 0 ∷ [] → two ≡ one ++ instance ∷ [] → three ≡ two ++ command ∷ []
    → three ≡ 0 ∷ instance ∷ command ∷ []
lead empty one two three instance command a b c d =
    d ∙ ap (λ (xs : List ℕ). xs ++ command ∷ []) (c ∙ ap (λ (xs : List ℕ). xs ++ instance ∷ []) (b ∙ ap (λ (xs : List ℕ). xs ++ 0 ∷ []) a))

-- what is shown stands behind the code of success
shows : (front done part out shown : List ℕ) (instance command : ℕ) (result : Result (List ℕ) ControlFault) → front ≡ 0 ∷ instance ∷ command ∷ [] → done ≡ front ++ 0 ∷ []
    → out ≡ done ++ part → part ≡ shown → Ok shown ≡ result → out ≡ 0 ∷ instance ∷ command ∷ coded result
shows front done part out shown instance command result a b c d e =
    c ∙ ap (λ (xs : List ℕ). xs ++ part) (b ∙ ap (λ (xs : List ℕ). xs ++ 0 ∷ []) a)
    ∙ ap (λ (xs : List ℕ). 0 ∷ instance ∷ command ∷ 0 ∷ xs) d ∙ ap (λ (r : Result (List ℕ) ControlFault). 0 ∷ instance ∷ command ∷ coded r) e

-- a fault's code stands alone
refuses : (front out : List ℕ) (instance command code : ℕ) (fault : ControlFault) (result : Result (List ℕ) ControlFault) → front ≡ 0 ∷ instance ∷ command ∷ []
    → out ≡ front ++ code ∷ [] → code ≡ code_of fault → Err fault ≡ result → out ≡ 0 ∷ instance ∷ command ∷ coded result
refuses front out instance command code fault result a b c d =
    b ∙ ap (λ (xs : List ℕ). xs ++ code ∷ []) a
    ∙ ap (λ (n : ℕ). 0 ∷ instance ∷ command ∷ n ∷ []) c ∙ ap (λ (r : Result (List ℕ) ControlFault). 0 ∷ instance ∷ command ∷ coded r) d

pub returns-in-Ok : goal.returns-in-Ok
returns-in-Ok c = record {
  reply = shows c.push-3.new.self c.push-in-Ok.new.self c.as_slice.result.now c.extend_from_slice.new.self c.in-Ok.shown c.args.instance c.args.command
      (shown_for c.args.self.now c.args.command c.args.content.now)
      (lead c.new-reply.result c.push.new.self c.push-2.new.self c.push-3.new.self c.args.instance c.args.command c.new-reply.ensures c.push.ensures c.push-2.ensures c.push-3.ensures)
      c.push-in-Ok.ensures c.extend_from_slice.ensures c.as_slice.ensures.value c.in-Ok.ensures.shown;
  after = c.answer.ensures.after;
}

pub returns-after-fault : goal.returns-after-fault
returns-after-fault c =
    let code : c.match-fault.push ≡ code_of c.in-Err.fault = search rules in
    record {
      reply = refuses c.push-3.new.self c.push-in-Err.new.self c.args.instance c.args.command c.match-fault.push c.in-Err.fault (shown_for c.args.self.now c.args.command c.args.content.now)
          (lead c.new-reply.result c.push.new.self c.push-2.new.self c.push-3.new.self c.args.instance c.args.command c.new-reply.ensures c.push.ensures c.push-2.ensures c.push-3.ensures)
          c.push-in-Err.ensures code c.in-Err.ensures.shown;
      after = c.answer.ensures.after;
    }

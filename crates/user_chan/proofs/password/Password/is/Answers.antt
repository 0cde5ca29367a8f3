use Rattle.std.proofs.Common.{List, ℕ, sym, ◌∙◌}
use Rattle.record_base.specs.MaskLaws.{same_test}
use Rattle.user_chan.specs.Passwords.{same_bytes, same_password}
use Rattle.user_chan.specs.PasswordLaws.{bytes_true, true_bytes}
use Rattle.user_chan.proofs.password.Password.is.Goals as goal

pub returns-in-Sixteen-Sixteen : goal.returns-in-Sixteen-Sixteen
returns-in-Sixteen-Sixteen c =
    let a : List ℕ = c.in-Sixteen-Sixteen.a in
    let b : List ℕ = c.in-Sixteen-Sixteen.b in
    same_test c.are_same.result (same_bytes a b) (λ h. true_bytes a b (c.are_same.ensures.0 h)) (λ h. c.are_same.ensures.1 (bytes_true a b h))
    ∙ sym (λ i. same_password (c.in-Sixteen-Sixteen.is-0 i) (c.in-Sixteen-Sixteen.is-1 i))

pub returns-in-Twenty-Twenty : goal.returns-in-Twenty-Twenty
returns-in-Twenty-Twenty c =
    let a : List ℕ = c.in-Twenty-Twenty.a in
    let b : List ℕ = c.in-Twenty-Twenty.b in
    same_test c.are_same-in-Twenty-Twenty.result (same_bytes a b) (λ h. true_bytes a b (c.are_same-in-Twenty-Twenty.ensures.0 h)) (λ h. c.are_same-in-Twenty-Twenty.ensures.1 (bytes_true a b h))
    ∙ sym (λ i. same_password (c.in-Twenty-Twenty.is-0 i) (c.in-Twenty-Twenty.is-1 i))

use Rattle.std.proofs.Common.{◌≡◌, ◌≤◌, ◌<◌, ◌-◌, ◌*◌, ◌/◌, ◌%◌, ℕ, List, [], ◌∷◌, length, take, drop, get_or, refl, ◌∙◌, ap, arith}
use Rattle.std.proofs.lemmas.List.{take_all}
use Rattle.text_lines.proofs.undo_line.ipmi.Goals as goal

-- the network function, the command and the data are what the bytes are
spelt_is : (bytes body : List ℕ) (net_fn : ℕ) → 2 ≤ length bytes → get_or bytes 0 0 % 8 ≡ 0 → net_fn ≡ get_or bytes 0 0 / 4 → body ≡ take (length bytes - 2) (drop 2 bytes)
    → net_fn * 4 ∷ get_or bytes 1 0 ∷ body ≡ bytes
spelt_is (first ∷ command ∷ rest) body net_fn long whole is same =
    let number : net_fn * 4 ≡ first = omega (arith, whole, is) in
    let behind : body ≡ rest = same ∙ take_all (length (first ∷ command ∷ rest) - 2) rest (omega arith) in
    (λ i. number i ∷ command ∷ behind i)
spelt_is (first ∷ []) body net_fn long whole is same = absurd (omega (arith, long))
spelt_is [] body net_fn long whole is same = absurd (omega (arith, long))

is_small : (first net_fn : ℕ) → first < 256 → net_fn ≡ first / 4 → net_fn < 64
is_small first net_fn byte is = omega (arith, byte, is)

is_even : (first net_fn : ℕ) → first % 8 ≡ 0 → net_fn ≡ first / 4 → net_fn % 2 ≡ 0
is_even first net_fn whole is = omega (arith, whole, is)

pub returns : goal.returns
returns c =
    let bytes : List ℕ = c.args.bytes.now in
    let first = get_or bytes 0 0 in
    let byte : first < 256 = omega (arith, c.type_inv.bytes 0) in
    record {
      some = record {
        plain = (refl, c.new-2.ensures);
        fits = (
          is_small first c.new.result byte c.new.ensures,
          is_even first c.new.result c.if-first-ne0.false c.new.ensures,
          let short = c.if-body-gt-MOST_IPMI_REQUEST_DATA.false in let size = ap (λ (xs : List ℕ). length xs) c.new-3.ensures in omega (arith, short, size),
        );
        sent = refl;
        spelt = spelt_is bytes c.new-3.result c.new.result c.in-len2-up.len_at_least c.if-first-ne0.false c.new.ensures c.new-3.ensures;
      };
      none = tt;
    }

-- A line, part by part.
use Rattle.std.proofs.Common.{◌≡◌, ℕ, List, [], ◌∷◌, ◌++◌, sym, ◌∙◌, ap}
use Rattle.std.proofs.lemmas.List.{append_assoc}
use Rattle.text_lines.specs.Cuts.{ended}

-- a part stands before what follows it
before : (a rest : List ℕ) (old now new : List ℕ) → now ≡ old ++ a → new ≡ now ++ rest → new ≡ old ++ (a ++ rest)
before a rest old now new first then = then ∙ ap (λ (t : List ℕ). t ++ rest) first ∙ append_assoc old a rest

-- the end goes on behind the part
behind : (a rest end all : List ℕ) → rest ++ end ≡ all → (a ++ rest) ++ end ≡ a ++ all
behind a rest end all is = append_assoc a rest end ∙ ap (λ (t : List ℕ). a ++ t) is

module _ (a b c d e f g h : List ℕ) where
  abbrev line : List ℕ
  line = a ++ (b ++ (c ++ (d ++ (e ++ (f ++ (g ++ h))))))

  abbrev feed : List ℕ
  feed = 10 ∷ []

  in_one : ended line ≡ a ++ (b ++ (c ++ (d ++ (e ++ (f ++ (g ++ (h ++ feed)))))))
  in_one =
      behind a _ feed _ (behind b _ feed _ (behind c _ feed _ (behind d _ feed _ (behind e _ feed _ (behind f _ feed _ (append_assoc g h feed))))))

  -- eight parts and a line feed are a line
  pub line_added : (t0 t1 t2 t3 t4 t5 t6 t7 t8 t9 : List ℕ) → t1 ≡ t0 ++ a → t2 ≡ t1 ++ b → t3 ≡ t2 ++ c → t4 ≡ t3 ++ d → t5 ≡ t4 ++ e → t6 ≡ t5 ++ f
      → t7 ≡ t6 ++ g → t8 ≡ t7 ++ h → t9 ≡ t8 ++ feed → t9 ≡ t0 ++ ended line
  line_added t0 t1 t2 t3 t4 t5 t6 t7 t8 t9 p1 p2 p3 p4 p5 p6 p7 p8 p9 =
      let q8 = before h feed t7 t8 t9 p8 p9 in
      let q7 = before g (h ++ feed) t6 t7 t9 p7 q8 in
      let q6 = before f (g ++ (h ++ feed)) t5 t6 t9 p6 q7 in
      let q5 = before e (f ++ (g ++ (h ++ feed))) t4 t5 t9 p5 q6 in
      let q4 = before d (e ++ (f ++ (g ++ (h ++ feed)))) t3 t4 t9 p4 q5 in
      let q3 = before c (d ++ (e ++ (f ++ (g ++ (h ++ feed))))) t2 t3 t9 p3 q4 in
      let q2 = before b (c ++ (d ++ (e ++ (f ++ (g ++ (h ++ feed)))))) t1 t2 t9 p2 q3 in
      let q1 = before a (b ++ (c ++ (d ++ (e ++ (f ++ (g ++ (h ++ feed))))))) t0 t1 t9 p1 q2 in
      q1 ∙ ap (λ (t : List ℕ). t0 ++ t) (sym in_one)

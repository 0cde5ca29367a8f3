-- What the line of the names says, in one way.
use Rattle.std.proofs.Common.{◌≡◌, ◌≢◌, ◌<◌, ◌%◌, ℕ, List, [], ◌∷◌, ◌++◌, get_or, arith, refl, sym, ◌∙◌, ap, subst, append_assoc, Ok, Err, Result, OnOk, codes}
use Rattle.std.specs.Result.{result_unwrap_or}
use Rattle.hex.specs.declared.error.FromHexError.{FromHexError}
use Rattle.hex.specs.Hex.{IsBytes, decode_of, encode_upper}
use Rattle.hex.proofs.HexLemmas.{decode_of-encode_upper}
use Rattle.text_lines.specs.Cuts.{LacksByte, CutsAt, ended}
use Rattle.text_lines.proofs.Cuts.{same_cut, not_lacking}
use Rattle.undo_plans.specs.declared.names.Names.{Names}
use Rattle.text_lines.specs.UndoText.{IsPair, AreEven, named_line, IsNamesLine, pair_of, names_line}
use Rattle.text_lines.proofs.UndoLines.{spaces_lack, bytes_cons, behind_same}

-- ---- what the line says

-- digits are one byte
one_byte : (digits : List ℕ) (a b : ℕ) → decode_of digits ≡ Ok (a ∷ []) → decode_of digits ≡ Ok (b ∷ []) → a ≡ b
one_byte digits a b p q = ap (λ (r : Result (List ℕ) FromHexError). get_or (result_unwrap_or r []) 0 0) (sym p ∙ q)

-- digits of a byte and a space stand at the front in one way
pub byte_cut : (text digits rest others back : List ℕ) (a b : ℕ) → text ≡ digits ++ 32 ∷ rest → text ≡ others ++ 32 ∷ back → decode_of digits ≡ Ok (a ∷ []) → decode_of others ≡ Ok (b ∷ [])
    → (digits ≡ others) × (rest ≡ back) × (a ≡ b)
byte_cut text digits rest others back a b p q here there =
    let same = same_cut 32 digits rest others back (sym p ∙ q) (spaces_lack digits (a ∷ []) here) (spaces_lack others (b ∷ []) there) in
    (same.0, same.1, one_byte others a b (subst (λ (d : List ℕ). decode_of d ≡ Ok (a ∷ [])) same.0 here) there)

-- a pair and what stands behind it, as a byte and what stands behind that
pub pair_first : (words rest : List ℕ) (own peer : ℕ) (is : IsPair words own peer) → words ++ 32 ∷ rest ≡ is.own_digits ++ 32 ∷ (is.peer_digits ++ 32 ∷ rest)
pair_first words rest own peer is = ap (λ (w : List ℕ). w ++ 32 ∷ rest) is.spelt ∙ append_assoc is.own_digits (32 ∷ is.peer_digits) (32 ∷ rest)

-- a pair and a space stand at the front in one way
pub pair_cut : (words rest others back : List ℕ) (own peer mine yours : ℕ) → words ++ 32 ∷ rest ≡ others ++ 32 ∷ back → IsPair words own peer → IsPair others mine yours
    → (rest ≡ back) × (own ≡ mine) × (peer ≡ yours)
pair_cut words rest others back own peer mine yours e p q =
    let front = byte_cut (words ++ 32 ∷ rest) p.own_digits _ q.own_digits _ own mine (pair_first words rest own peer p) (e ∙ pair_first others back mine yours q) p.own_read q.own_read in
    let second = byte_cut (p.peer_digits ++ 32 ∷ rest) p.peer_digits rest q.peer_digits back peer yours refl (front.1) p.peer_read q.peer_read in
    (second.1, front.2, second.2)

-- words are one pair
pub one_pair : (words others : List ℕ) (own peer mine yours : ℕ) → words ≡ others → IsPair words own peer → IsPair others mine yours → (own ≡ mine) × (peer ≡ yours)
one_pair words others own peer mine yours e p q =
    let front = byte_cut words p.own_digits _ q.own_digits _ own mine p.spelt (e ∙ q.spelt) p.own_read q.own_read in
    (front.2, one_byte q.peer_digits peer yours (subst (λ (d : List ℕ). decode_of d ≡ Ok (peer ∷ [])) front.1 p.peer_read) q.peer_read)

-- how a names' line goes on behind its first words
pub names_behind : (line rest : List ℕ) (names : Names) → line ≡ codes "names ipmb " ++ rest → (is : IsNamesLine line names)
    → rest ≡ is.ipmb ++ 32 ∷ (codes "smbus " ++ (is.smbus ++ 32 ∷ (codes "eid " ++ is.eid)))
names_behind line rest names e is =
    let both : codes "names ipmb " ++ rest ≡ named_line is.ipmb is.smbus is.eid = sym e ∙ is.spelt in
    cc both

same_names : (a b : Names) → a.own_address ≡ b.own_address → a.peer_address ≡ b.peer_address → a.own_wire ≡ b.own_wire → a.peer_wire ≡ b.peer_wire → a.own_eid ≡ b.own_eid → a.peer_eid ≡ b.peer_eid → a ≡ b
same_names a b p q r s t u = λ i. record { own_address = p i; peer_address = q i; own_wire = r i; peer_wire = s i; own_eid = t i; peer_eid = u i }

-- what stands behind words that stand in front of both
pub eid_same : (rest last other : List ℕ) → rest ≡ codes "eid " ++ last → rest ≡ codes "eid " ++ other → last ≡ other
eid_same rest last other p q =
    let both : codes "eid " ++ last ≡ codes "eid " ++ other = sym p ∙ q in
    cc both

-- a line has the names of one list
pub one_names : (line : List ℕ) (a b : Names) → IsNamesLine line a → IsNamesLine line b → a ≡ b
one_names line a b p q =
    let rest = names_behind line _ a p.spelt p in
    let other = names_behind line _ b p.spelt q in
    let first = pair_cut p.ipmb _ q.ipmb _ _ _ _ _ other p.addresses q.addresses in
    let behind = behind_same _ _ _ refl first.0 in
    let second = pair_cut p.smbus _ q.smbus _ _ _ _ _ behind p.wires q.wires in
    let last = one_pair p.eid q.eid _ _ _ _ (eid_same _ _ _ refl second.0) p.eids q.eids in
    same_names a b first.1 first.2 second.1 second.2 last.0 last.1

-- ---- reading on

-- a text without a space begins with no byte and a space
pub no_byte : (text digits rest : List ℕ) → LacksByte 32 text → text ≢ digits ++ 32 ∷ rest
no_byte text digits rest lacks e = not_lacking 32 digits rest (subst (LacksByte 32) e lacks)

-- what begins with a byte and a space has that byte in its first word
pub first_word_is : (text front back digits rest : List ℕ) (byte : ℕ) → CutsAt 32 text front back → decode_of digits ≡ Ok (byte ∷ []) → text ≡ digits ++ 32 ∷ rest → decode_of front ≡ Ok (byte ∷ [])
first_word_is text front back digits rest byte cut read e =
    let same = same_cut 32 front back digits rest (sym cut.parts ∙ e) cut.first (spaces_lack digits (byte ∷ []) read) in
    subst (λ (d : List ℕ). decode_of d ≡ Ok (byte ∷ [])) (sym same.0) read

-- what begins with a byte, where a pair stands at its front: the pair's first, and then its second
pub pair_behind : (text digits back words rest : List ℕ) (byte own peer : ℕ) → decode_of digits ≡ Ok (byte ∷ []) → text ≡ digits ++ 32 ∷ back → text ≡ words ++ 32 ∷ rest → (is : IsPair words own peer)
    → (byte ≡ own) × (back ≡ is.peer_digits ++ 32 ∷ rest)
pair_behind text digits back words rest byte own peer read e f is =
    let same = byte_cut text digits back is.own_digits _ byte own e (f ∙ pair_first words rest own peer is) read is.own_read in
    (same.2, same.1)

-- the byte behind it is the pair's second
pub second_is : (text digits back words rest : List ℕ) (byte own peer : ℕ) → decode_of digits ≡ Ok (byte ∷ []) → text ≡ digits ++ 32 ∷ back → (is : IsPair words own peer) → text ≡ is.peer_digits ++ 32 ∷ rest → byte ≡ peer
second_is text digits back words rest byte own peer read e is f = (byte_cut text digits back is.peer_digits rest byte peer e f read is.peer_read).2

-- what stands behind the first byte of words that are a pair
pub pair_last : (words digits back : List ℕ) (byte own peer : ℕ) → decode_of digits ≡ Ok (byte ∷ []) → words ≡ digits ++ 32 ∷ back → (is : IsPair words own peer) → decode_of back ≡ Ok (peer ∷ [])
pair_last words digits back byte own peer read e is =
    let same = byte_cut words digits back is.own_digits is.peer_digits byte own e is.spelt read is.own_read in
    subst (λ (d : List ℕ). decode_of d ≡ Ok (peer ∷ [])) (sym same.1) is.peer_read

-- two bytes are a pair
pub pair_read : (text first second rest more : List ℕ) (own peer : ℕ) → decode_of first ≡ Ok (own ∷ []) → text ≡ first ++ 32 ∷ more → decode_of second ≡ Ok (peer ∷ []) → more ≡ second ++ 32 ∷ rest
    → (words : List ℕ) × (text ≡ words ++ 32 ∷ rest) × IsPair words own peer
pair_read text first second rest more own peer p e q f = (
  first ++ 32 ∷ second,
  e ∙ ap (λ (l : List ℕ). first ++ 32 ∷ l) f ∙ sym (append_assoc first (32 ∷ second) (32 ∷ rest)),
  record { own_digits = first; peer_digits = second; spelt = refl; own_read = p; peer_read = q },
)

-- what stands behind the addresses on IPMB
pub behind_ipmb : (line all words rest : List ℕ) (own peer : ℕ) (names : Names) → line ≡ codes "names ipmb " ++ all → all ≡ words ++ 32 ∷ rest → IsPair words own peer → (is : IsNamesLine line names)
    → rest ≡ codes "smbus " ++ (is.smbus ++ 32 ∷ (codes "eid " ++ is.eid))
behind_ipmb line all words rest own peer names e f pair is = (pair_cut words rest is.ipmb _ own peer _ _ (sym f ∙ names_behind line all names e is) pair is.addresses).0

-- and behind the word of SMBus
pub behind_word : (line all words rest others : List ℕ) (own peer : ℕ) (names : Names) → line ≡ codes "names ipmb " ++ all → all ≡ words ++ 32 ∷ rest → IsPair words own peer → rest ≡ codes "smbus " ++ others
    → (is : IsNamesLine line names) → others ≡ is.smbus ++ 32 ∷ (codes "eid " ++ is.eid)
behind_word line all words rest others own peer names e f pair g is = behind_same rest others _ g (behind_ipmb line all words rest own peer names e f pair is)

-- and behind the addresses there
pub behind_smbus : (others words rest : List ℕ) (own peer : ℕ) (line : List ℕ) (names : Names) → others ≡ words ++ 32 ∷ rest → IsPair words own peer → (is : IsNamesLine line names)
    → others ≡ is.smbus ++ 32 ∷ (codes "eid " ++ is.eid) → rest ≡ codes "eid " ++ is.eid
behind_smbus others words rest own peer line names e pair is f = (pair_cut words rest is.smbus _ own peer _ _ (sym e ∙ f) pair is.wires).0

-- ---- the names that are written

-- a pair that is written is that of its bytes
pub pair_written : (own peer : ℕ) → own < 256 → peer < 256 → IsPair (pair_of own peer) own peer
pair_written own peer small little = record {
  own_digits = encode_upper (own ∷ []);
  peer_digits = encode_upper (peer ∷ []);
  spelt = refl;
  own_read = decode_of-encode_upper (own ∷ []) (bytes_cons own [] small no_bytes);
  peer_read = decode_of-encode_upper (peer ∷ []) (bytes_cons peer [] little no_bytes);
}
  where
    no_bytes : IsBytes []
    no_bytes i = omega arith

-- the line that is written for names has these names
pub names_written : (names : Names) (own peer wire other : ℕ) → own ≡ names.own_address → peer ≡ names.peer_address → wire ≡ names.own_wire → other ≡ names.peer_wire
    → own % 2 ≡ 0 → peer % 2 ≡ 0 → wire % 2 ≡ 0 → other % 2 ≡ 0
    → IsPair (pair_of own peer) own peer → IsPair (pair_of wire other) wire other → IsPair (pair_of names.own_eid names.peer_eid) names.own_eid names.peer_eid → IsNamesLine (names_line names) names
names_written names own peer wire other a b c d own_even peer_even wire_even other_even addresses wires eids = record {
  ipmb = pair_of names.own_address names.peer_address;
  smbus = pair_of names.own_wire names.peer_wire;
  eid = pair_of names.own_eid names.peer_eid;
  spelt = refl;
  addresses = subst (λ (x : ℕ × ℕ). IsPair (pair_of x.0 x.1) x.0 x.1) (λ i. (a i, b i)) addresses;
  wires = subst (λ (x : ℕ × ℕ). IsPair (pair_of x.0 x.1) x.0 x.1) (λ i. (c i, d i)) wires;
  eids = eids;
  even_addresses = subst (λ (x : ℕ × ℕ). AreEven x.0 x.1) (λ i. (a i, b i)) (own_even, peer_even);
  even_wires = subst (λ (x : ℕ × ℕ). AreEven x.0 x.1) (λ i. (c i, d i)) (wire_even, other_even);
}

-- it is so where a write of it succeeds
pub where_ok : {T E : Type 0} (P : Type 0) (r : Result T E) → P → OnOk r P
where_ok P (Ok value) p = p
where_ok P (Err e) p = tt

-- the line of the names, piece by piece
named_ended : (ipmb smbus eid : List ℕ) → ended (named_line ipmb smbus eid) ≡ codes "names ipmb " ++ (ipmb ++ (codes " smbus " ++ (smbus ++ (codes " eid " ++ (eid ++ 10 ∷ [])))))
named_ended ipmb smbus eid =
    ap (λ (l : List ℕ). codes "names ipmb " ++ l)
    (append_assoc ipmb (codes " smbus " ++ (smbus ++ (codes " eid " ++ eid))) (10 ∷ []) ∙ ap (λ (l : List ℕ). ipmb ++ (codes " smbus " ++ l)) (append_assoc smbus (codes " eid " ++ eid) (10 ∷ [])))

-- pairs that are written one behind the other, and a line feed, are the line
pub pieces_written : (t0 t1 t2 t3 t4 ipmb smbus eid : List ℕ) → t1 ≡ t0 ++ (codes "names ipmb " ++ ipmb) → t2 ≡ t1 ++ (codes " smbus " ++ smbus) → t3 ≡ t2 ++ (codes " eid " ++ eid) → t4 ≡ t3 ++ 10 ∷ []
    → t4 ≡ t0 ++ ended (named_line ipmb smbus eid)
pieces_written t0 t1 t2 t3 t4 ipmb smbus eid a b c d =
    let third : t4 ≡ t2 ++ (codes " eid " ++ (eid ++ 10 ∷ [])) = d ∙ ap (λ (l : List ℕ). l ++ 10 ∷ []) c ∙ append_assoc t2 (codes " eid " ++ eid) (10 ∷ []) in
    let last = codes " eid " ++ (eid ++ 10 ∷ []) in
    let second : t4 ≡ t1 ++ (codes " smbus " ++ (smbus ++ last)) = third ∙ ap (λ (l : List ℕ). l ++ last) b ∙ append_assoc t1 (codes " smbus " ++ smbus) last in
    let more = codes " smbus " ++ (smbus ++ last) in
    second ∙ ap (λ (l : List ℕ). l ++ more) a ∙ append_assoc t0 (codes "names ipmb " ++ ipmb) more ∙ ap (λ (l : List ℕ). t0 ++ l) (sym (named_ended ipmb smbus eid))

-- and so are those of names
pub names_pieces : (t0 t1 t2 t3 t4 : List ℕ) (names : Names) (own peer wire other : ℕ) → own ≡ names.own_address → peer ≡ names.peer_address → wire ≡ names.own_wire → other ≡ names.peer_wire
    → t1 ≡ t0 ++ (codes "names ipmb " ++ pair_of own peer) → t2 ≡ t1 ++ (codes " smbus " ++ pair_of wire other) → t3 ≡ t2 ++ (codes " eid " ++ pair_of names.own_eid names.peer_eid) → t4 ≡ t3 ++ 10 ∷ []
    → t4 ≡ t0 ++ ended (names_line names)
names_pieces t0 t1 t2 t3 t4 names own peer wire other a b c d one two three four =
    pieces_written t0 t1 t2 t3 t4 (pair_of own peer) (pair_of wire other) (pair_of names.own_eid names.peer_eid) one two three four
    ∙ (λ i. t0 ++ ended (named_line (pair_of (a i) (b i)) (pair_of (c i) (d i)) (pair_of names.own_eid names.peer_eid)))

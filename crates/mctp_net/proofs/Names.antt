-- Names, and where they are looked for.
use Rattle.std.proofs.Common.{◌≡◌, Bool, true, false, Option, Some, None, refl, sym, ◌∙◌, subst, arith}
use Rattle.std.proofs.lemmas.Bool.Decides.{nat_tests}
use Rattle.mctp_net.specs.declared.packet.Name.{Name}
use Rattle.mctp_net.specs.Grammar.{bit}
use Rattle.mctp_net.specs.Assembly.{is_name}
use Rattle.mctp_net.specs.Places.{is_at}
use Rattle.mctp_net.proofs.PacketLaws.{bit-one}

-- names that are the same are one
pub name-one : (m n : Name) → is_name m n ≡ true → m ≡ n
name-one m n h =
    let source : m.source_eid ≡ n.source_eid = grind (arith, nat_tests) in
    let owns : bit m.tag_owner ≡ bit n.tag_owner = grind (arith, nat_tests) in
    let tag : m.tag ≡ n.tag = grind (arith, nat_tests) in
    let owner : m.tag_owner ≡ n.tag_owner = bit-one m.tag_owner n.tag_owner owns in
    λ i. record { source_eid = source i; tag_owner = owner i; tag = tag i }

pub name-self : (n : Name) → is_name n n ≡ true
name-self n = grind (arith, nat_tests)

-- what has one name hasn't another
pub other-name_at : (o : Option Name) (m n : Name) → is_at o (Some m) ≡ true → is_name n m ≡ false → is_at o (Some n) ≡ false
other-name_at None m n h differ = refl
other-name_at (Some k) m n h differ = by_name (is_name k n) refl
  where
    by_name : (b : Bool) → is_name k n ≡ b → is_name k n ≡ false
    by_name true e = absurd (
        let same : n ≡ m = sym (name-one k n e) ∙ name-one k m h in
        let yes : is_name n m ≡ true = subst (λ (x : Name). is_name n x ≡ true) same (name-self n) in
        let no : true ≡ false = sym yes ∙ differ in cc)
    by_name false e = e

-- what is free has no name
pub free_at : (o : Option Name) (n : Name) → is_at o None ≡ true → is_at o (Some n) ≡ false
free_at None n h = refl
free_at (Some m) n h = absurd cc

-- what has a name isn't free
pub used_at : (o : Option Name) (n : Name) → is_at o (Some n) ≡ true → is_at o None ≡ false
used_at None n h = absurd cc
used_at (Some m) n h = refl

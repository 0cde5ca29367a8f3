-- A packet changes what waits under its own name alone.
use Rattle.std.proofs.Common.{◌≡◌, ℕ, Bool, true, false, cond, List, [], ◌∷◌, ◌++◌, Option, Some, None, refl, ap}
use Rattle.mctp_net.specs.declared.packet.Name.{Name}
use Rattle.mctp_net.specs.declared.packet.Packet.{Packet}
use Rattle.mctp_net.specs.declared.taken.DropCause.{DropCause}
use Rattle.mctp_net.specs.declared.taken.DropCause.TheVariants.{NotOurs, NoStart, TooLong, OutOfSequence, UnitSize, NoSlot}
use Rattle.mctp_net.specs.Cut.{Piece, piece}
use Rattle.mctp_net.specs.Assembly.{Assemblies, name_of, is_name, joined_to, with_under, ended, kept_with, drop_cause, after_where, after, named_where}
use Rattle.mctp_net.proofs.Names.{name-self}

-- under the name that is put, and under others
under-put : (n : Name) (ps : List Piece) (a : Assemblies) → (with_under n ps a).under n ≡ ps
under-put n ps a = ap (λ b. cond b ps (a.under n)) (name-self n)

under-other : (m n : Name) (ps : List Piece) (a : Assemblies) → is_name m n ≡ false → (with_under n ps a).under m ≡ a.under m
under-other m n ps a e = ap (λ b. cond b ps (a.under m)) e

pub own-name : (own : ℕ) (a : Assemblies) (p : Packet) → (after own a p).under (name_of p.envelope) ≡ named_where (drop_cause own a p) p a
own-name own a p = by_cause (drop_cause own a p)
  where
    shut : (with_under (name_of p.envelope) [] a).under (name_of p.envelope) ≡ []
    shut = under-put (name_of p.envelope) [] a

    by_end : (b : Bool) → (cond b (ended p a) (kept_with p a)).under (name_of p.envelope) ≡ cond b [] (joined_to p a ++ piece p ∷ [])
    by_end true = shut
    by_end false = under-put (name_of p.envelope) (joined_to p a ++ piece p ∷ []) a

    by_cause : (cause : Option DropCause) → (after_where cause p a).under (name_of p.envelope) ≡ named_where cause p a
    by_cause (Some NotOurs) = refl
    by_cause (Some NoStart) = refl
    by_cause (Some TooLong) = shut
    by_cause (Some OutOfSequence) = shut
    by_cause (Some UnitSize) = shut
    by_cause (Some NoSlot) = shut
    by_cause None = by_end p.end

pub other-name : (own : ℕ) (a : Assemblies) (p : Packet) (n : Name) → is_name n (name_of p.envelope) ≡ false → (after own a p).under n ≡ a.under n
other-name own a p n e = by_cause (drop_cause own a p)
  where
    stays : (ps : List Piece) → (with_under (name_of p.envelope) ps a).under n ≡ a.under n
    stays ps = under-other n (name_of p.envelope) ps a e

    by_end : (b : Bool) → (cond b (ended p a) (kept_with p a)).under n ≡ a.under n
    by_end true = stays []
    by_end false = stays (joined_to p a ++ piece p ∷ [])

    by_cause : (cause : Option DropCause) → (after_where cause p a).under n ≡ a.under n
    by_cause (Some NotOurs) = refl
    by_cause (Some NoStart) = refl
    by_cause (Some TooLong) = stays []
    by_cause (Some OutOfSequence) = stays []
    by_cause (Some UnitSize) = stays []
    by_cause (Some NoSlot) = stays []
    by_cause None = by_end p.end
